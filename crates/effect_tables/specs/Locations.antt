-- Where things stand in the store, and effects among those that live.
use Rattle.std.specs.Prelude.{◌≡◌, ℕ, suc, ◌==◌, List, [], ◌∷◌, Option, Some, None, option_map, if◌then◌else◌}
use Rattle.sig_store.specs.Stored.{entry}
use Rattle.effect_tables.specs.declared.effect.Effect.{Effect}

-- what is made inside an owner is to stand in the row that the owner has
abbrev pub IsInside : List (Option ℕ) → Option ℕ → Option ℕ → Type 0
IsInside owners None None = Unit {0}
IsInside owners (Some o) (Some row) = entry owners o ≡ Some row
IsInside owners _ _ = ⊥

-- the place of the effect of a number
abbrev pub effect_place : ℕ → List Effect → Option ℕ
effect_place n [] = None
effect_place n (x ∷ xs) = if n == x.id then Some 0 else option_map suc (effect_place n xs)
