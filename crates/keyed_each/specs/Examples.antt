-- Worked lists of keys, by computing the steps.
use Rattle.std.specs.Prelude.{◌≡◌, ℕ, List, [], ◌∷◌, codes}
use Rattle.std.proofs.Common.{refl}
use Rattle.keyed_each.specs.declared.places.RowStep.TheVariants.{Keep, Insert, Move}
use Rattle.std.specs.Str.{bytes_eq}
use Rattle.keyed_each.specs.Steps.{steps_between}

-- four keys
abbrev pub four : List (List ℕ)
four = codes "a" ∷ codes "b" ∷ codes "c" ∷ codes "d" ∷ []

-- nothing moves where nothing changed
pub the_same : steps_between bytes_eq four four ≡ Keep ∷ Keep ∷ Keep ∷ Keep ∷ []
the_same = refl

-- the last row put first moves alone
pub last_first : steps_between bytes_eq four (codes "d" ∷ codes "a" ∷ codes "b" ∷ codes "c" ∷ []) ≡ Move 3 ∷ Keep ∷ Keep ∷ Keep ∷ []
last_first = refl

-- the first row put last moves all others before it
pub first_last : steps_between bytes_eq four (codes "b" ∷ codes "c" ∷ codes "d" ∷ codes "a" ∷ []) ≡ Move 1 ∷ Move 2 ∷ Move 3 ∷ Keep ∷ []
first_last = refl

-- a row that is taken out lets the others stand
pub one_out : steps_between bytes_eq four (codes "a" ∷ codes "c" ∷ codes "d" ∷ []) ≡ Keep ∷ Keep ∷ Keep ∷ []
one_out = refl

-- rows that are put in, moved and taken out at once
pub all_kinds : steps_between bytes_eq four (codes "c" ∷ codes "e" ∷ codes "a" ∷ []) ≡ Move 2 ∷ Insert 1 ∷ Keep ∷ []
all_kinds = refl
