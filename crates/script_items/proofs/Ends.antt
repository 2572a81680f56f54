-- Some, and the last of them, as what they stand for.
use Rattle.std.proofs.Common.{◌≡◌, List, [], ◌∷◌, ◌++◌, map, refl}

map_last : {A B : Type 0} (f : A → B) (ys : List A) (y : A) → map f (ys ++ y ∷ []) ≡ map f ys ++ f y ∷ []
map_last f [] y = refl
map_last f (z ∷ zs) y = let rest = map_last f zs y in rw rest refl

-- the first of some, those behind it, and the last, as what they stand for
pub parted_map : {A B : Type 0} (f : A → B) (xs : List A) (x : A) (ys : List A) (y : A) → xs ≡ x ∷ (ys ++ y ∷ [])
    → map f xs ≡ f x ∷ (map f ys ++ f y ∷ [])
parted_map f xs x ys y e = let rest = map_last f ys y in rw (e, rest) refl
