-- What numbers say, one number more, where a number stands, and those that are left out.
use Rattle.std.proofs.Common.{◌≡◌, ◌==◌, ◌||◌, ℕ, zero, suc, Bool, true, not, if◌then◌else◌, sym, ap, ◌∙◌, append_assoc, inl, inr, refl, List, [], ◌∷◌, ◌++◌, Some, slice_get}
use Rattle.std.specs.List.{flat_map}
use Rattle.std.proofs.lemmas.Bool.{cases_Bool}
use Rattle.std.proofs.lemmas.Option.{none-some, same_Some}
use Rattle.page_model.specs.Edits.{listed}
use Rattle.page_model.specs.Pages.{those}
use Rattle.tpl_patch.specs.Sets.{left_out}

pub one_more : (f : ℕ → List ℕ) (n : ℕ) (ns rest all before now : List ℕ) → ns ≡ n ∷ rest → now ≡ before ++ f n → before ++ flat_map f ns ≡ all →
    now ++ flat_map f rest ≡ all
one_more f n ns rest all before now e put was =
    ap (λ z. z ++ flat_map f rest) put ∙ (append_assoc before (f n) (flat_map f rest) ∙ (ap (λ z. before ++ flat_map f z) (sym e) ∙ was))

-- a number that stands at a place is one of them
pub one_there : (xs : List ℕ) (i m n : ℕ) → Some m ≡ slice_get xs i → (m == n) ≡ true → listed n xs ≡ true
one_there [] i m n e f = absurd (none-some m (sym e))
one_there (x ∷ xs) zero m n e f = ap (λ z. z == n || listed n xs) (same_Some x m (sym e)) ∙ ap (λ b. b || listed n xs) f
one_there (x ∷ xs) (suc i) m n e f = elim (cases_Bool (x == n)) [
  | inl g ↦ rw g refl
  | inr g ↦ rw g (one_there xs i m n e f)
]

-- ---- those that are left out

those_both : (f : ℕ → Bool) (xs ys : List ℕ) → those f (xs ++ ys) ≡ those f xs ++ those f ys
those_both f [] ys = refl
those_both f (x ∷ xs) ys = elim (cases_Bool (f x)) [
  | inl g ↦ rw g (ap (λ z. x ∷ z) (those_both f xs ys))
  | inr g ↦ rw g (those_both f xs ys)
]

-- a kept one isn't left out
pub one_held : (kept : List ℕ) (n : ℕ) (ns rest before all : List ℕ) → ns ≡ n ∷ rest → listed n kept ≡ true → before ++ left_out kept ns ≡ all →
    before ++ left_out kept rest ≡ all
one_held kept n ns rest before all e held was =
    ap (λ b. before ++ (if not b then n ∷ left_out kept rest else left_out kept rest)) (sym held) ∙ (ap (λ z. before ++ left_out kept z) (sym e) ∙ was)

-- one that may be left out is judged later
pub one_stray : (kept : List ℕ) (n : ℕ) (ns rest before now all : List ℕ) → ns ≡ n ∷ rest → now ≡ before ++ n ∷ [] →
    left_out kept before ++ left_out kept ns ≡ all → left_out kept now ++ left_out kept rest ≡ all
one_stray kept n ns rest before now all e put was =
    let f : ℕ → Bool = λ m. not (listed m kept) in
    ap (λ z. those f z ++ those f rest) put
    ∙ (sym (those_both f (before ++ n ∷ []) rest)
    ∙ (ap (those f) (append_assoc before (n ∷ []) rest)
    ∙ (those_both f before (n ∷ rest) ∙ (ap (λ z. those f before ++ those f z) (sym e) ∙ was))))
