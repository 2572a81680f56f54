-- What stands at a place of a list, and of another made of it.
use Rattle.std.proofs.Common.{◌≡◌, ◌<◌, ◌≤◌, ℕ, zero, suc, arith, true, false, List, [], ◌∷◌, length, get_or, map, Some, None, refl, sym, ap, ◌∙◌}
use Rattle.std.specs.Prelude.{nat_lt, option_map, slice_get}
use Rattle.std.proofs.lemmas.Bool.Decides.{nat_tests}
use Rattle.std.proofs.lemmas.Option.{slice_get-map}

get_there : {A : Type 0} (xs : List A) (n : ℕ) (x : A) → n < length xs → x ≡ get_or xs n x → slice_get xs n ≡ Some x
get_there [] n x l e = absurd (omega (arith, l))
get_there (y ∷ ys) zero x l e = ap Some (sym e)
get_there (y ∷ ys) (suc n) x l e = get_there ys n x (omega (arith, l)) e

pub get_some : {A : Type 0} (xs : List A) (n : ℕ) (x : A) → true ≡ nat_lt n (length xs) → x ≡ get_or xs n x → slice_get xs n ≡ Some x
get_some xs n x h e = let l : n < length xs = grind (arith, nat_tests, h) in get_there xs n x l e

get_past : {A : Type 0} (xs : List A) (n : ℕ) → length xs ≤ n → slice_get xs n ≡ None
get_past [] n l = refl
get_past (y ∷ ys) zero l = absurd (omega (arith, l))
get_past (y ∷ ys) (suc n) l = get_past ys n (omega (arith, l))

pub get_none : {A : Type 0} (xs : List A) (n : ℕ) → false ≡ nat_lt n (length xs) → slice_get xs n ≡ None
get_none xs n h = let l : length xs ≤ n = grind (arith, nat_tests, h) in get_past xs n l

pub there : {A B : Type 0} (f : A → B) (xs : List A) (n : ℕ) (x : A) → slice_get xs n ≡ Some x → slice_get (map f xs) n ≡ Some (f x)
there f xs n x e = slice_get-map f xs n ∙ ap (option_map f) e

pub not_there : {A B : Type 0} (f : A → B) (xs : List A) (n : ℕ) → slice_get xs n ≡ None → slice_get (map f xs) n ≡ None
not_there f xs n e = slice_get-map f xs n ∙ ap (option_map f) e
