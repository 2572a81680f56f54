-- A stack whose top is the last element.
use Rattle.std.proofs.Common.{arith, ◌≡◌, ◌∙◌, ◌-◌, ◌<◌, ◌++◌, ℕ, List, [], ◌∷◌, Option, Some, None, ap, refl, sym, length, length-append, reverse}
use Rattle.std.specs.Prelude.{MatchOption, option_to_list, slice_get}
use Rattle.std.proofs.Math.Seq.{get_or-append_seam}
use Rattle.std.proofs.lemmas.List.{reverse-append, reverse-reverse}
use Rattle.std.proofs.lemmas.Option.{slice_get-get_or}
use Rattle.sig_formula.specs.Machines.{first_of, others}

nothing_there : {A : Type 0} (n : ℕ) (xs : List A) → n ≡ length xs → n ≡ 0 → xs ≡ []
nothing_there n [] l e = refl
nothing_there n (x ∷ xs) l e = absurd (omega arith)

-- what is taken
pub taken : {A : Type 0} (o : Option A) (before now : List A) (m n : ℕ) (Rest : A → Type 0) → m ≡ length before → n ≡ length now →
    before ≡ now ++ option_to_list o → MatchOption o ((m ≡ 0) × (n ≡ 0)) Rest → o ≡ first_of (reverse before)
taken None before now m n Rest l k e c = ap (λ xs. first_of (reverse xs)) (sym (nothing_there m before l c.0))
taken (Some x) before now m n Rest l k e c = ap first_of (sym (ap reverse e ∙ reverse-append now (x ∷ [])))

-- what is left
pub remaining : {A : Type 0} (o : Option A) (before now : List A) (m n : ℕ) (Rest : A → Type 0) → m ≡ length before → n ≡ length now →
    before ≡ now ++ option_to_list o → MatchOption o ((m ≡ 0) × (n ≡ 0)) Rest → reverse now ≡ others (reverse before)
remaining None before now m n Rest l k e c =
    ap reverse (nothing_there n now k c.1) ∙ ap (λ xs. others (reverse xs)) (sym (nothing_there m before l c.0))
remaining (Some x) before now m n Rest l k e c = ap others (sym (ap reverse e ∙ reverse-append now (x ∷ [])))

-- the last element is the top
pub last_first : {A : Type 0} (xs : List A) → slice_get xs (length xs - 1) ≡ first_of (reverse xs)
last_first xs = turned (reverse xs) xs (sym (reverse-reverse xs))
  where
    top : {A : Type 0} (ys : List A) (y : A) → slice_get (ys ++ y ∷ []) (length (ys ++ y ∷ []) - 1) ≡ Some y
    top ys y =
        let long = length-append ys (y ∷ []) in
        let at : length (ys ++ y ∷ []) - 1 ≡ length ys = omega (arith, long) in
        let within : length ys < length (ys ++ y ∷ []) = omega (arith, long) in
        ap (λ n. slice_get (ys ++ y ∷ []) n) at
        ∙ (slice_get-get_or (ys ++ y ∷ []) (length ys) y within ∙ ap Some (get_or-append_seam ys y [] y))

    turned : {A : Type 0} (zs ys : List A) → ys ≡ reverse zs → slice_get ys (length ys - 1) ≡ first_of zs
    turned [] ys e = ap (λ us. slice_get us (length us - 1)) e
    turned (z ∷ zs) ys e =
        let is : ys ≡ reverse zs ++ z ∷ [] = e ∙ reverse-append (z ∷ []) zs in
        ap (λ us. slice_get us (length us - 1)) is ∙ top (reverse zs) z
