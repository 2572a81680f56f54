-- A few bytes in an array that has room for more, and whose last byte says how many they are.
use Rattle.std.specs.Prelude.{◌≡◌, ℕ, ◌-◌, ◌≤◌, List, [], ◌∷◌, ◌++◌, length, take, replicate, slice_index, IsUtf8}

-- the bytes that stand in an array whose last place is `last`
abbrev pub placed : ℕ → List ℕ → List ℕ
placed last array = take (slice_index array last) array

-- the array in which bytes stand: they, a 0 at each place that is left, and how many they are
abbrev pub padded : ℕ → List ℕ → List ℕ
padded last text = text ++ (replicate (last - length text) 0 ++ length text ∷ [])

-- what holds of such an array
pub record IsPlaced (last : ℕ) (array : List ℕ) : Type 0 where
  pub few : slice_index array last ≤ last
  pub text : ∥ IsUtf8 (placed last array) ∥₁
  pub whole : array ≡ padded last (placed last array)
