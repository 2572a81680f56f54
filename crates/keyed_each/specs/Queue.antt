-- The same steps, judged on the old keys that haven't had their turn.
use Rattle.std.specs.Prelude.{◌≡◌, ℕ, suc, ◌<◌, Bool, false, if◌then◌else◌, List, [], ◌∷◌, Some, length, slice_get}
use Rattle.keyed_each.specs.declared.places.RowStep.{RowStep}
use Rattle.keyed_each.specs.declared.places.RowStep.TheVariants.{Keep, Insert, Move}
use Rattle.keyed_each.specs.Steps.{listed, spot, taken}

module _ {A : Type 0} (eq : A → A → Bool) where
  -- whether the key comes first
  abbrev pub leads : A → List A → Bool
  leads k [] = false
  leads k (x ∷ xs) = eq x k

  -- the steps from place i on, where `rest` are the old keys that haven't had their turn
  abbrev pub judged : List A → ℕ → List A → List A → List RowStep
  judged old i rest [] = []
  judged old i rest (k ∷ ks) =
      if listed eq k rest
      then (if leads k rest then Keep else Move (spot eq k old)) ∷ judged old (suc i) (taken eq k rest) ks
      else Insert i ∷ judged old (suc i) rest ks

-- the keys that wait, by a mark for each
abbrev pub left : {A : Type 0} → List Bool → List A → List A
left [] xs = []
left (b ∷ bs) [] = []
left (b ∷ bs) (x ∷ xs) = if b then x ∷ left bs xs else left bs xs

-- the first place that waits, or the number of places
abbrev pub first_waiting : List Bool → ℕ
first_waiting [] = 0
first_waiting (b ∷ bs) = if b then 0 else suc (first_waiting bs)

-- the key stands at the place
pub record IsPlaceOf {A : Type 0} (k : A) (keys : List A) (p : ℕ) : Type 0 where
  pub within : p < length keys
  pub there : slice_get keys p ≡ Some k
