-- An effect at a place is the one of its number, since numbers rise.
use Rattle.std.proofs.Common.{◌≡◌, ◌⊎◌, inl, inr, ℕ, zero, suc, ◌+◌, ◌<◌, ◌≤◌, ◌==◌, true, false, cond, List, [], ◌∷◌, map, length, Some, refl, sym, ap, subst, ◌∙◌, arith}
use Rattle.std.specs.Prelude.{slice_get, slice_index_or}
use Rattle.std.proofs.lemmas.Bool.{eq-eqb}
use Rattle.std.proofs.lemmas.Bool.Decides.{nat_tests}
use Rattle.effect_model.specs.Worlds as plain
use Rattle.effect_model.specs.Worlds.{effect_at}
use Rattle.effect_tables.specs.declared.effect.Effect.{Effect}
use Rattle.effect_tables.specs.Consistency.{AreRising}
use Rattle.effect_tables.specs.Placed.{effect_of}
use Rattle.effect_turns.specs.Stills.{AllLower, IsLower, NoneLower, Parts, StandsAt}

-- what stands further on has a number that isn't lower
later : (low p : ℕ) (xs : List Effect) (x : Effect) → AreRising low xs → p < length xs → x ≡ slice_index_or xs p x → low ≤ x.id
later low p [] x up l is = absurd (omega (arith, l))
later low zero (y ∷ ys) x up l is = subst (λ (z : Effect). low ≤ z.id) (sym is) up.0
later low (suc p) (y ∷ ys) x up l is =
    let k : p < length ys = omega (arith, l) in
    let m : suc y.id ≤ x.id = later (suc y.id) p ys x up.1 k is in
    let f : low ≤ y.id = up.0 in
    omega (arith, m, f)

pub stands : (low n p : ℕ) (xs : List Effect) (x : Effect) → AreRising low xs → p < length xs → x ≡ slice_index_or xs p x → (n == x.id) ≡ true → effect_at n (map effect_of xs) ≡ Some (effect_of x)
stands low n p [] x up l is e = absurd (omega (arith, l))
stands low n zero (y ∷ ys) x up l is e =
    ap (λ b. cond b (Some (effect_of y)) (effect_at n (map effect_of ys))) (ap (λ (z : Effect). n == z.id) (sym is) ∙ e) ∙ ap (λ (z : Effect). Some (effect_of z)) (sym is)
stands low n (suc p) (y ∷ ys) x up l is e =
    let k : p < length ys = omega (arith, l) in
    let m : suc y.id ≤ x.id = later (suc y.id) p ys x up.1 k is in
    let off : (n == y.id) ≡ false = grind (arith, nat_tests, m, e) in
    ap (λ b. cond b (Some (effect_of y)) (effect_at n (map effect_of ys))) off ∙ stands (suc y.id) n p ys x up.1 k is e

pub at_place : (p : ℕ) (xs : List Effect) (x : Effect) → p < length xs → x ≡ slice_index_or xs p x → slice_get (map effect_of xs) p ≡ Some (effect_of x)
at_place p [] x l is = absurd (omega (arith, l))
at_place zero (y ∷ ys) x l is = ap (λ (z : Effect). Some (effect_of z)) (sym is)
at_place (suc p) (y ∷ ys) x l is = at_place p ys x (omega (arith, l)) is

-- ---- places and numbers

pub number_is : (x y : plain.Effect) → Some x ≡ Some y → x.number ≡ y.number
number_is x y e = cc

-- what stands further on has no lower number
no_lower : (from p : ℕ) (xs : List Effect) → AreRising from xs → NoneLower from p xs
no_lower from p [] up x at = absurd cc
no_lower from zero (y ∷ ys) up x at = subst (λ n. from ≤ n) (number_is (effect_of y) x at) up.0
no_lower from (suc p) (y ∷ ys) up x at =
    let m : suc y.id ≤ x.number = no_lower (suc y.id) p ys up.1 x at in
    let f : from ≤ y.id = up.0 in
    omega (arith, m, f)

pub higher_on : (from m n p : ℕ) (xs : List Effect) → AreRising from xs → NoneLower m n xs → n ≤ p → NoneLower m p xs
higher_on from m n p [] up h l x at = absurd cc
higher_on from m zero zero (y ∷ ys) up h l x at = h x at
higher_on from m zero (suc p) (y ∷ ys) up h l x at =
    let k : m ≤ y.id = h (effect_of y) refl in
    let f : suc y.id ≤ x.number = no_lower (suc y.id) p ys up.1 x at in
    omega (arith, k, f)
higher_on from m (suc n) zero (y ∷ ys) up h l x at = absurd (omega (arith, l))
higher_on from m (suc n) (suc p) (y ∷ ys) up h l x at = higher_on (suc y.id) m n p ys up.1 h (omega (arith, l)) x at

-- where an effect stands, none has a lower number
pub stands_lower : (m n : ℕ) (xs : List Effect) → StandsAt m n xs → NoneLower m n xs
stands_lower m n xs s x at =
    let same : s.effect.number ≡ x.number = number_is s.effect x (sym s.there ∙ at) in
    let is = s.number in
    omega (arith, same, is)

-- a place before another one, or not
pub before_or : (p q : ℕ) → (p < q) ⊎ (q ≤ p)
before_or p zero = inr (omega arith)
before_or zero (suc q) = inl (omega arith)
before_or (suc p) (suc q) = elim (before_or p q) [ inl l ↦ inl (omega (arith, l)) | inr m ↦ inr (omega (arith, m)) ]

-- so what stands at a place is the effect of its number
pub lives_here : (from p : ℕ) (xs : List Effect) (x : plain.Effect) → AreRising from xs → slice_get (map effect_of xs) p ≡ Some x → effect_at x.number (map effect_of xs) ≡ Some x
lives_here from p [] x up at = absurd cc
lives_here from zero (y ∷ ys) x up at =
    ap (λ b. cond b (Some (effect_of y)) (effect_at x.number (map effect_of ys))) (eq-eqb x.number y.id (sym (number_is (effect_of y) x at))) ∙ at
lives_here from (suc p) (y ∷ ys) x up at =
    let m : suc y.id ≤ x.number = no_lower (suc y.id) p ys up.1 x at in
    let off : (x.number == y.id) ≡ false = grind (arith, nat_tests, m) in
    ap (λ b. cond b (Some (effect_of y)) (effect_at x.number (map effect_of ys))) off ∙ lives_here (suc y.id) p ys x up.1 at

-- what stands at a place, and what number it has
pub stands_there : (p : ℕ) (xs : List Effect) (x : Effect) (e : ℕ) → p < length xs → x ≡ slice_index_or xs p x → e ≡ x.id → StandsAt e p xs
stands_there p xs x e l is number = record { effect = effect_of x; there = at_place p xs x l is; number = sym number }

pub higher_here : (low p : ℕ) (xs : List Effect) (x : Effect) → p < length xs → x ≡ slice_index_or xs p x → low ≤ x.id → NoneLower low p xs
higher_here low p xs x l is high y at = subst (λ n. low ≤ n) (number_is (effect_of x) y (sym (at_place p xs x l is) ∙ at)) high

-- before one that is lower all are
first_lower : (from low n : ℕ) (xs : List Effect) → AreRising from xs → n < length xs → IsLower low n xs → from < low
first_lower from low n [] up l h = absurd (omega (arith, l))
first_lower from low zero (y ∷ ys) up l h =
    let k : y.id < low = h (effect_of y) refl in
    let f : from ≤ y.id = up.0 in
    omega (arith, k, f)
first_lower from low (suc n) (y ∷ ys) up l h =
    let k : suc y.id < low = first_lower (suc y.id) low n ys up.1 (omega (arith, l)) h in
    let f : from ≤ y.id = up.0 in
    omega (arith, k, f)

lower_before : (from low n p : ℕ) (xs : List Effect) → AreRising from xs → n < length xs → IsLower low n xs → p ≤ n → IsLower low p xs
lower_before from low n p [] up l h k x at = absurd cc
lower_before from low zero zero (y ∷ ys) up l h k x at = h x at
lower_before from low (suc n) zero (y ∷ ys) up l h k x at =
    let f : suc y.id < low = first_lower (suc y.id) low n ys up.1 (omega (arith, l)) h in
    let same : y.id ≡ x.number = number_is (effect_of y) x at in
    omega (arith, f, same)
lower_before from low zero (suc p) (y ∷ ys) up l h k x at = absurd (omega (arith, k))
lower_before from low (suc n) (suc p) (y ∷ ys) up l h k x at = lower_before (suc y.id) low n p ys up.1 (omega (arith, l)) h (omega (arith, k)) x at

pub all_before : (low n k : ℕ) (xs : List Effect) → AreRising 0 xs → n < length xs → IsLower low n xs → k ≤ n + 1 → AllLower low k xs
all_before low n k xs up l h most p m = lower_before 0 low n p xs up l h (omega (arith, m, most))

pub all_none : (low : ℕ) (xs : List Effect) → AllLower low 0 xs
all_none low xs p l = absurd (omega (arith, l))

pub parted : (low n : ℕ) (xs : List Effect) → AreRising 0 xs → AllLower low n xs → NoneLower low n xs → Parts low n xs
parted low n xs up before here = record { before = before; behind = λ p l. higher_on 0 low n p xs up here l }
