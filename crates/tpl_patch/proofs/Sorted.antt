-- Numbers that were sorted are in ascending order.
use Rattle.std.proofs.Common.{◌≡◌, ℕ, ◌+◌, ◌≤◌, ◌==◌, refl, sym, ap, ◌∙◌, arith, leb, inl, inr, List, [], ◌∷◌}
use Rattle.std.specs.List.{flat_map, sum_by}
use Rattle.std.specs.List.Sorted.{IsNonDecreasing, IsPermutation, IsSorted}
use Rattle.std.specs.Ordering.{nat_cmp}
use Rattle.std.proofs.lemmas.Bool.{cases_Bool, leb-false}
use Rattle.std.proofs.lemmas.List.Sorted.{IsNonDecreasingBy-drop, IsNonDecreasingBy-from_sort, sum_by-IsPermutation}
use Rattle.std.proofs.lemmas.List.Sums.{sum_by-cons}
use Rattle.page_model.specs.Edits.{ascending, into}
use Rattle.page_model.specs.Forest.{one}
use Rattle.page_model.specs.Pages.{ascending_by, into_by}
use Rattle.tpl_model.specs.PageUpdates.Differences.{often}
use Rattle.tpl_model.proofs.Shared.{often_both, same_order}

often_sum : (j : ℕ) (xs : List ℕ) → often j xs ≡ sum_by (λ x. one (x == j)) xs
often_sum j [] = refl
often_sum j (x ∷ xs) = ap (λ z. one (x == j) + z) (often_sum j xs) ∙ sym (sum_by-cons (λ x. one (x == j)) x xs)

into_same : (n : ℕ) (ms : List ℕ) → into n ms ≡ into_by (λ x. x) n ms
into_same n [] = refl
into_same n (m ∷ ms) = elim (cases_Bool (leb n m)) [
  | inl e ↦ rw e refl
  | inr e ↦ rw e (ap (λ z. m ∷ z) (into_same n ms))
]

ascending_same : (ns : List ℕ) → ascending ns ≡ ascending_by (λ x. x) ns
ascending_same [] = refl
ascending_same (n ∷ ns) = ap (into n) (ascending_same ns) ∙ into_same n (ascending_by (λ x. x) ns)

-- what is in order stays as it is
in_order_already : (ns : List ℕ) → IsNonDecreasing ns → ascending ns ≡ ns
in_order_already [] up = refl
in_order_already (n ∷ []) up = refl
in_order_already (n ∷ m ∷ ms) up =
    let below : n ≤ m = up 0 1 0 (omega arith) (omega arith) in
    let rest : IsNonDecreasing (m ∷ ms) = IsNonDecreasingBy-drop (λ x. x) 1 (n ∷ m ∷ ms) up in
    elim (cases_Bool (leb n m)) [
      | inl e ↦ ap (into n) (in_order_already (m ∷ ms) rest) ∙ rw e refl
      | inr e ↦ (let above = leb-false n m e in absurd (omega (arith, below, above)))
    ]

-- two lists with the same numbers as often
same_ascending : (ns ms : List ℕ) → ((j : ℕ) → often j ms ≡ often j ns) → ascending ms ≡ ascending ns
same_ascending ns ms counts = ascending_same ms ∙ (same_order (λ x. x) ms ns counts (λ a b f g e. e) ∙ sym (ascending_same ns))

moved_often : (ns ms : List ℕ) → IsPermutation ns ms → (j : ℕ) → often j ms ≡ often j ns
moved_often ns ms moved j = often_sum j ms ∙ (sum_by-IsPermutation (λ x. one (x == j)) ns ms moved ∙ sym (often_sum j ns))

pub sorted_is : (ns ms : List ℕ) → IsPermutation ns ms → IsSorted nat_cmp ms → ms ≡ ascending ns
sorted_is ns ms moved up = sym (in_order_already ms (IsNonDecreasingBy-from_sort (λ x. x) ms up)) ∙ same_ascending ns ms (moved_often ns ms moved)

flat_often : (f : ℕ → List ℕ) (j : ℕ) (xs : List ℕ) → often j (flat_map f xs) ≡ sum_by (λ x. often j (f x)) xs
flat_often f j [] = refl
flat_often f j (x ∷ xs) =
    often_both j (f x) (flat_map f xs) ∙ (ap (λ z. often j (f x) + z) (flat_often f j xs) ∙ sym (sum_by-cons (λ y. often j (f y)) x xs))

-- what numbers say, in ascending order, is the same in whatever order they come
pub flat_ascending : (f : ℕ → List ℕ) (xs ys : List ℕ) → IsPermutation xs ys → ascending (flat_map f ys) ≡ ascending (flat_map f xs)
flat_ascending f xs ys moved =
    same_ascending (flat_map f xs) (flat_map f ys)
    (λ j. flat_often f j ys ∙ (sum_by-IsPermutation (λ x. often j (f x)) xs ys moved ∙ sym (flat_often f j xs)))
