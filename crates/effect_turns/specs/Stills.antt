-- Effects that need no look.
use Rattle.std.specs.Prelude.{◌≡◌, ◌<◌, ◌≤◌, ℕ, Bool, true, false, List, map, slice_get, Option, Some, None}
use Rattle.std.specs.List.{list_all}
use Rattle.signal_model.specs.Signals.{Signals}
use Rattle.signal_model.specs.Values.{Seen}
use Rattle.effect_model.specs.Worlds as plain
use Rattle.effect_model.specs.Worlds.{effect_at}
use Rattle.effect_tables.specs.declared.effect.Effect.{Effect}
use Rattle.effect_tables.specs.Placed.{effect_of}
use Rattle.effect_runs.specs.Evaluations.{is_still}
use Rattle.effect_world.specs.declared.world.World.{World}

-- whether an effect has run, and has read cells alone that have their values still
abbrev pub are_kept_still : Signals → Option (List Seen) → Bool
are_kept_still w None = false
are_kept_still w (Some ss) = list_all (is_still w) ss

-- the effect of a number lives, and is such a one
pub record IsQuiet (e : ℕ) (w : World) : Type 0 where
  pub effect : plain.Effect
  pub lives : effect_at e (map effect_of w.tables.effects.items) ≡ Some effect
  pub still : are_kept_still w.graph.state.signals effect.kept ≡ true

-- at a place stands an effect of this number
pub record StandsAt (e p : ℕ) (xs : List Effect) : Type 0 where
  pub effect : plain.Effect
  pub there : slice_get (map effect_of xs) p ≡ Some effect
  pub number : effect.number ≡ e

-- what stands at a place has a lower number than this
abbrev pub IsLower : ℕ → ℕ → List Effect → Type 0
IsLower low p xs = (x : plain.Effect) → slice_get (map effect_of xs) p ≡ Some x → x.number < low

-- at a place stands no effect whose number is lower than this
abbrev pub NoneLower : ℕ → ℕ → List Effect → Type 0
NoneLower low p xs = (x : plain.Effect) → slice_get (map effect_of xs) p ≡ Some x → low ≤ x.number

-- before a place all numbers are lower than this
abbrev pub AllLower : ℕ → ℕ → List Effect → Type 0
AllLower low n xs = (p : ℕ) → p < n → IsLower low p xs

-- a place parts the effects whose numbers are lower than this from the others
pub record Parts (low n : ℕ) (xs : List Effect) : Type 0 where
  pub before : AllLower low n xs
  pub behind : (p : ℕ) → n ≤ p → NoneLower low p xs

-- before a place, what has no lower number than this needs no look, and at it no lower number stands
pub record IsNext (low n : ℕ) (w : World) : Type 0 where
  pub passed : (p : ℕ) (x : plain.Effect) → p < n → slice_get (map effect_of w.tables.effects.items) p ≡ Some x → low ≤ x.number → IsQuiet x.number w
  pub here : NoneLower low n w.tables.effects.items
