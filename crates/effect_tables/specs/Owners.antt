-- Owners by their own numbers.
use Rattle.std.specs.Prelude.{ℕ, zero, suc, ◌==◌, ◌||◌, Bool, false, List, [], ◌∷◌, Option, Some, None, is_some, if◌then◌else◌}

-- what is seen of owners: at each number that was given the row of the owner, none where it is gone
pub record OwnerList : Type 0 where
  pub items : List (Option ℕ)

-- whether an owner has a row
abbrev pub has_row : ℕ → Option ℕ → Bool
has_row n None = false
has_row n (Some m) = n == m

-- whether one of them does
abbrev pub is_row : ℕ → List (Option ℕ) → Bool
is_row n [] = false
is_row n (e ∷ es) = has_row n e || is_row n es

-- The number of the owner that has a row; past all numbers what is no owner's row, each at another one.
abbrev pub number_in : List (Option ℕ) → ℕ → ℕ
number_in [] n = n
number_in (e ∷ es) n = if has_row n e then 0 else suc (number_in es n)

-- the numbers of those that live, from one number on
abbrev pub living : ℕ → List (Option ℕ) → List ℕ
living n [] = []
living n (e ∷ es) = if is_some e then n ∷ living (suc n) es else living (suc n) es

-- the owner of a number is gone
abbrev pub closed_at : ℕ → List (Option ℕ) → List (Option ℕ)
closed_at n [] = []
closed_at zero (e ∷ es) = None ∷ es
closed_at (suc n) (e ∷ es) = e ∷ closed_at n es
