-- Children that all stay, under the numbers that a node's children have.
use Rattle.std.proofs.Common.{◌≡◌, ◌==◌, ◌&&◌, ℕ, zero, suc, ◌+◌, ◌≤◌, Bool, true, false, nat_eq, not, List, [], ◌∷◌, drop, length, slice_get, eqb-true, eq-eqb, refl, sym, ap, ◌∙◌, arith, inl, inr}
use Rattle.std.specs.Prelude.{is_some}
use Rattle.std.proofs.lemmas.Bool.{cases_Bool, false≢true}
use Rattle.std.proofs.lemmas.List.{drop-drop}
use lib.Pointwise.{pointwise}
use Rattle.tpl_model.specs.ShownNodes.Shapes.{Next, comes, stays}
use Rattle.tpl_live.specs.Plans.{numbers_staying, stay_as, stays_at}

-- ---- numbers

none_of : (b : Bool) → (b && false) ≡ false
none_of true = refl
none_of false = refl

differ : (a b : ℕ) → ((a ≡ b) → ⊥) → (a == b) ≡ false
differ a b apart = elim (cases_Bool (a == b)) [
  | inl e ↦ absurd (apart (eqb-true a b e))
  | inr e ↦ e
]

both_more : (a b : ℕ) → (suc a == suc b) ≡ (a == b)
both_more a b = elim (cases_Bool (a == b)) [
  | inl e ↦ (let h = eqb-true a b e in eq-eqb (suc a) (suc b) (ap suc h) ∙ sym e)
  | inr e ↦ differ (suc a) (suc b) (λ f. false≢true (sym e ∙ eq-eqb a b (omega (arith, f)))) ∙ sym e
]

-- ---- one child

-- no more stay than there are
few_stay : (cs : List Next) → length (numbers_staying cs) ≤ length cs
few_stay [] = omega arith
few_stay (stays n ∷ cs) = (let i = few_stay cs in omega (arith, i))
few_stay (comes t ∷ cs) = (let i = few_stay cs in omega (arith, i))

first_stays : (c : Next) (cs : List Next) (ns : List ℕ) → stays_at c (slice_get ns 0) ≡ true → stay_as (c ∷ cs) ns ≡ stay_as cs (drop 1 ns)
first_stays (stays n) cs [] e = absurd (false≢true e)
first_stays (stays n) cs (m ∷ ns) e =
    let a = length (numbers_staying cs) in
    let p = pointwise nat_eq (numbers_staying cs) ns in
    ap (λ z. z && ((n == m) && p)) (both_more a (length cs)) ∙ ap (λ z. (a == length cs) && (z && p)) e
first_stays (comes t) cs ns e = absurd (false≢true e)

first_leaves : (c : Next) (cs : List Next) (ns : List ℕ) → stays_at c (slice_get ns 0) ≡ false → stay_as (c ∷ cs) ns ≡ false
first_leaves (stays n) cs [] e = none_of (suc (length (numbers_staying cs)) == suc (length cs))
first_leaves (stays n) cs (m ∷ ns) e =
    let many = suc (length (numbers_staying cs)) == suc (length cs) in
    ap (λ z. many && (z && pointwise nat_eq (numbers_staying cs) ns)) e ∙ none_of many
first_leaves (comes t) cs ns e =
    let few = few_stay cs in
    ap (λ z. z && pointwise nat_eq (numbers_staying cs) ns) (differ (length (numbers_staying cs)) (suc (length cs)) (λ f. omega (arith, f, few)))

-- ---- children at their places

at_front : (ns : List ℕ) (i : ℕ) → slice_get (drop i ns) 0 ≡ slice_get ns i
at_front [] zero = refl
at_front [] (suc i) = refl
at_front (n ∷ ns) zero = refl
at_front (n ∷ ns) (suc i) = at_front ns i

one_behind : (ns : List ℕ) (i : ℕ) → drop 1 (drop i ns) ≡ drop (i + 1) ns
one_behind ns i = drop-drop 1 i ns

-- a child that stays at its place, before others
pub one_stays : (c : Next) (all cs : List Next) (ns : List ℕ) (i : ℕ) (total : Bool) → all ≡ c ∷ cs → stays_at c (slice_get ns i) ≡ true →
    stay_as all (drop i ns) ≡ total → stay_as cs (drop (i + 1) ns) ≡ total
one_stays c all cs ns i total e here was =
    ap (stay_as cs) (sym (one_behind ns i))
    ∙ (sym (first_stays c cs (drop i ns) (ap (stays_at c) (at_front ns i) ∙ here)) ∙ (ap (λ z. stay_as z (drop i ns)) (sym e) ∙ was))

-- one that doesn't
pub one_leaves : (c : Next) (all cs : List Next) (ns : List ℕ) (i : ℕ) (total : Bool) → all ≡ c ∷ cs → stays_at c (slice_get ns i) ≡ false →
    stay_as all (drop i ns) ≡ total → false ≡ total
one_leaves c all cs ns i total e here was =
    sym (first_leaves c cs (drop i ns) (ap (stays_at c) (at_front ns i) ∙ here)) ∙ (ap (λ z. stay_as z (drop i ns)) (sym e) ∙ was)

pub not_not : (b : Bool) → not (not b) ≡ b
not_not true = refl
not_not false = refl

none_behind : (ns : List ℕ) (i : ℕ) → not (is_some (slice_get ns i)) ≡ stay_as [] (drop i ns)
none_behind [] zero = refl
none_behind [] (suc i) = refl
none_behind (n ∷ ns) zero = refl
none_behind (n ∷ ns) (suc i) = none_behind ns i

-- behind the last child
pub all_stay : (all : List Next) (ns : List ℕ) (i : ℕ) (total : Bool) → all ≡ [] → stay_as all (drop i ns) ≡ total → not (is_some (slice_get ns i)) ≡ total
all_stay all ns i total e was = none_behind ns i ∙ (ap (λ z. stay_as z (drop i ns)) (sym e) ∙ was)
