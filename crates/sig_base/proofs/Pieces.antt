-- Lists of numbers that are the same, told by parts of them.
use Rattle.std.proofs.Common.{◌≡◌, ℕ, suc, ◌+◌, ◌-◌, ◌<◌, ◌≤◌, true, false, List, [], ◌∷◌, get_or, length, take, drop, refl, sym, ap, ◌∙◌, arith, inl, inr, ltb}
use Rattle.std.specs.Str.{bytes_eq}
use Rattle.std.proofs.lemmas.Bool.{cases_Bool, ltb-false, ltb-true}
use Rattle.std.proofs.lemmas.List.{get_or-drop, get_or-take}
use Rattle.std.proofs.lemmas.Slice.Eq.{bytes_eq-Decides}

-- lists of one length that have the same number at each place
each_same : (n m : List ℕ) → length n ≡ length m → ((i : ℕ) → i < length n → get_or n i 0 ≡ get_or m i 0) → n ≡ m
each_same [] [] l h = refl
each_same [] (y ∷ ys) l h = absurd (omega (arith, l))
each_same (x ∷ xs) [] l h = absurd (omega (arith, l))
each_same (x ∷ xs) (y ∷ ys) l h =
    let rest = each_same xs ys (omega (arith, l)) (λ i lt. h (suc i) (omega (arith, lt))) in
    let first : x ≡ y = h 0 (omega arith) in
    (λ i. first i ∷ rest i)

-- a number among four from a place on
among : (xs : List ℕ) (at j : ℕ) → j < 4 → get_or (take 4 (drop at xs)) j 0 ≡ get_or xs (at + j) 0
among xs at j h = get_or-take 4 (drop at xs) j 0 h ∙ get_or-drop at xs j 0

-- where four are the same from a place on, each of them is
of_four : (n m : List ℕ) (at i : ℕ) → take 4 (drop at n) ≡ take 4 (drop at m) → at ≤ i → i < at + 4 → get_or n i 0 ≡ get_or m i 0
of_four n m at i p low high =
    let j = i - at in
    let lt : j < 4 = omega (arith, low, high) in
    let is : at + j ≡ i = omega (arith, low) in
    ap (λ z. get_or n z 0) (sym is) ∙ (sym (among n at j lt) ∙ (ap (λ z. get_or z j 0) p ∙ (among m at j lt ∙ ap (λ z. get_or m z 0) is)))

-- where the first four and the last four are the same, of at most eight, all are
pub words_same : (n m : List ℕ) (last : ℕ) → length n ≡ length m → last + 4 ≡ length n → length n ≤ 8 → take 4 (drop 0 n) ≡ take 4 (drop 0 m)
    → take 4 (drop last n) ≡ take 4 (drop last m) → n ≡ m
words_same n m last l e most p q = each_same n m l there where
  there : (i : ℕ) → i < length n → get_or n i 0 ≡ get_or m i 0
  there i h = elim (cases_Bool (ltb i 4)) [
    | inl front ↦ (let lt = ltb-true i 4 front in of_four n m 0 i p (omega arith) (omega (arith, lt)))
    | inr back ↦ (let ge = ltb-false i 4 back in of_four n m last i q (omega (arith, ge, e, most)) (omega (arith, h, e)))
  ]

-- what the test of the bytes says, where they are the same
pub told_same : (n m : List ℕ) → n ≡ m → true ≡ bytes_eq n m
told_same n m e = sym ((bytes_eq-Decides n m).1 e)

-- what it says, where they aren't
pub told_other : (n m : List ℕ) → (n ≡ m → ⊥) → false ≡ bytes_eq n m
told_other n m h = elim (cases_Bool (bytes_eq n m)) [
  | inl e ↦ absurd (h ((bytes_eq-Decides n m).0 e))
  | inr e ↦ sym e
]
