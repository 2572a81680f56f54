-- When a flush is refused.
use Rattle.std.specs.Prelude.{◌≡◌, ℕ, true, false, Some}
use Rattle.effect_model.specs.Worlds.{Environment, Effect, World, effect_at}
use Rattle.effect_model.specs.Runs.{is_effect_due, value_now, Flushed, flush}

-- an effect that lives is due
pub record HasDue (env : Environment) (w : World) : Type 0 where
  pub number : ℕ
  pub effect : Effect
  pub lives : effect_at number w.effects ≡ Some effect
  pub due : is_effect_due (value_now env w) effect.kept ≡ true

-- no effect that lives is due
abbrev pub NoneDue : Environment → World → Type 0
NoneDue env w = (n : ℕ) (x : Effect) → effect_at n w.effects ≡ Some x → is_effect_due (value_now env w) x.kept ≡ false

-- where a flush is refused so many turns have each run an effect, and one is due after them; where it isn't, none is due
pub record EndsRightly (env : Environment) (most : ℕ) (f : Flushed) : Type 0 where
  pub refused : f.refused ≡ true → (f.turns ≡ most) × HasDue env f.world
  pub rests : f.refused ≡ false → NoneDue env f.world

-- so each flush ends, whatever stood before
abbrev pub RestLaw : Type 0
RestLaw = (env : Environment) (w : World) → EndsRightly env 100 (flush env w)
