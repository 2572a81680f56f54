-- The steps from old rows to new ones, by their keys.
use Rattle.std.specs.Prelude.{ℕ, zero, suc, Bool, false, ◌||◌, if◌then◌else◌, List, [], ◌∷◌, Option, Some, None, slice_get}
use Rattle.keyed_each.specs.declared.places.RowStep.{RowStep}
use Rattle.keyed_each.specs.declared.places.RowStep.TheVariants.{Keep, Insert, Move}

-- by a test that tells equal keys
module _ {A : Type 0} (eq : A → A → Bool) where
  -- whether a key is in the list
  abbrev pub listed : A → List A → Bool
  listed k [] = false
  listed k (x ∷ xs) = eq x k || listed k xs

  -- whether it stands at that place
  abbrev pub placed : A → ℕ → List A → Bool
  placed k i [] = false
  placed k zero (x ∷ xs) = eq x k
  placed k (suc i) (x ∷ xs) = placed k i xs

  -- its place, or the length of the list
  abbrev pub spot : A → List A → ℕ
  spot k [] = 0
  spot k (x ∷ xs) = if eq x k then 0 else suc (spot k xs)

  -- the list without it
  abbrev pub taken : A → List A → List A
  taken k [] = []
  taken k (x ∷ xs) = if eq x k then xs else x ∷ taken k xs

  -- the old keys that are among the new ones
  abbrev pub kept : List A → List A → List A
  kept new [] = []
  kept new (x ∷ xs) = if listed x new then x ∷ kept new xs else kept new xs

-- the list with a key put in so that it stands at a place
abbrev pub put_at : {A : Type 0} → ℕ → A → List A → List A
put_at zero k xs = k ∷ xs
put_at (suc i) k [] = k ∷ []
put_at (suc i) k (x ∷ xs) = x ∷ put_at i k xs

module _ {A : Type 0} (eq : A → A → Bool) where
  -- the steps to new keys from place i on: each place is judged on the keys as the earlier steps left them
  abbrev pub steps_from : List A → ℕ → List A → List A → List RowStep
  steps_from old i now [] = []
  steps_from old i now (k ∷ ks) =
      if listed eq k now
      then (if placed eq k i now then Keep ∷ steps_from old (suc i) now ks
      else Move (spot eq k old) ∷ steps_from old (suc i) (put_at i k (taken eq k now)) ks)
      else Insert i ∷ steps_from old (suc i) (put_at i k now) ks

  -- the steps from old keys to new ones; those that aren't among the new ones are taken out first
  abbrev pub steps_between : List A → List A → List RowStep
  steps_between old new = steps_from old 0 (kept eq new old) new

  -- a row, where there is one, put in or moved so that it stands at a place
  abbrev pub inserted : ℕ → Option A → List A → List A
  inserted i None now = now
  inserted i (Some k) now = put_at i k now

  abbrev pub moved : ℕ → Option A → List A → List A
  moved i None now = now
  moved i (Some k) now = put_at i k (taken eq k now)

  -- what a step for the new row at place i makes of the keys
  abbrev pub after_step : List A → List A → ℕ → RowStep → List A → List A
  after_step old new i Keep now = now
  after_step old new i (Insert j) now = inserted i (slice_get new j) now
  after_step old new i (Move j) now = moved i (slice_get old j) now

  -- what the steps from place i on make of them
  abbrev pub after_steps : List A → List A → ℕ → List RowStep → List A → List A
  after_steps old new i [] now = now
  after_steps old new i (s ∷ ss) now = after_steps old new (suc i) ss (after_step old new i s now)
