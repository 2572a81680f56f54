-- A turn and a last look, effect by effect.
use Rattle.std.specs.Prelude.{◌≡◌, ℕ, ◌||◌, Bool, false, List, [], ◌∷◌, Option, Some, None, if◌then◌else◌}
use Rattle.sig_base.specs.declared.value.Outcome.{Outcome}
use Rattle.effect_model.specs.Worlds.{Environment, Effect, World, effect_at, effect_numbers}
use Rattle.effect_model.specs.Runs.{is_effect_due, look, run_effect, turn, value_now}

-- what is done to an effect, where there is one
abbrev pub to_effect : (Effect → World → World) → Option Effect → World → World
to_effect act None w = w
to_effect act (Some x) w = act x w

-- the effect of a number is looked at, where it lives
abbrev pub glance : Environment → ℕ → World → World
glance env e w = to_effect (look env) (effect_at e w.effects) w

-- it runs, where it lives
abbrev pub rerun : Environment → ℕ → World → World
rerun env e w = to_effect (run_effect env) (effect_at e w.effects) w

-- whether there is an effect, and it is due by what signals are now
abbrev pub due_of : (ℕ → Outcome) → Option Effect → Bool
due_of source None = false
due_of source (Some x) = is_effect_due source x.kept

-- whether the effect of a number lives and is due
abbrev pub is_due : Environment → ℕ → World → Bool
is_due env e w = due_of (value_now env w) (effect_at e w.effects)

-- it is looked at, and it runs where it is due
abbrev pub visit : Environment → ℕ → World → World
visit env e w = if is_due env e w then rerun env e (glance env e w) else glance env e w

-- so are these, one after the other
abbrev pub visit_all : Environment → List ℕ → World → World
visit_all env [] w = w
visit_all env (e ∷ es) w = visit_all env es (visit env e w)

-- whether one of them has run
abbrev pub some_ran : Environment → List ℕ → World → Bool
some_ran env [] w = false
some_ran env (e ∷ es) w = is_due env e w || some_ran env es (visit env e w)

-- these are looked at, one after the other
abbrev pub glance_all : Environment → List ℕ → World → World
glance_all env [] w = w
glance_all env (e ∷ es) w = glance_all env es (glance env e w)

-- a turn visits the effects that live at its start, and tells whether one of them has run
pub record IsByVisits (env : Environment) (w : World) : Type 0 where
  pub world : (turn env w).world ≡ visit_all env (effect_numbers w.effects) w
  pub ran : (turn env w).ran ≡ some_ran env (effect_numbers w.effects) w

abbrev pub TurnsByVisits : Type 0
TurnsByVisits = (env : Environment) (w : World) → IsByVisits env w
