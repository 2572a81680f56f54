-- What the operations of a page rest on, by number: the numbers of new nodes, and the numbers that stay.
use Rattle.std.proofs.Common.{◌≡◌, ℕ, suc, ◌+◌, ◌==◌, true, false, ◌||◌, refl, ap, ◌∙◌, eq-eqb, inl, inr, List, [], ◌∷◌, ◌++◌, length}
use Rattle.std.proofs.lemmas.Bool.{cases_Bool, true≢false}
use Rattle.page_model.specs.Forest.{Forest, none, node, on}
use Rattle.page_model.specs.Labels.{Look}
use Rattle.page_model.specs.Edits.{listed}
use Rattle.page_model.specs.Pages.{NumberedPage, page_shape, number_of, carried, new_order, place_in, with_numbers}
use Rattle.tpl_model.specs.PageUpdates.Updates.{ReadLaw, NumberLaw}
use Rattle.tpl_model.proofs.PageUpdates.Summary.{found_edits_law, found_order_law}
use Rattle.page_model.proofs.Shared.{or_left, or_right, self_on, new_number, old_number}

-- ---- the numbers that stay

-- a part whose addresses were all there keeps its numbers, so a part that is passed over isn't touched
pub numbers_stay : (old : NumberedPage) (shape t : Forest Look) → ((j : ℕ) → on j t ≡ true → on j (page_shape old) ≡ true) → with_numbers (carried old shape) t ≡ with_numbers (number_of old) t
numbers_stay old shape none h = refl
numbers_stay old shape (node a x k r) h =
    let e = old_number old shape a (h a (self_on a x k r)) in
    let ik = numbers_stay old shape k (λ j i. h j (or_right (a == j) (on j k || on j r) (or_left (on j k) (on j r) i))) in
    let ir = numbers_stay old shape r (λ j i. h j (or_right (a == j) (on j k || on j r) (or_right (on j k) (on j r) i))) in
    ap (λ z. node a (z, x) (with_numbers (carried old shape) k) (with_numbers (carried old shape) r)) e
    ∙ (ap (λ z. node a (number_of old a, x) z (with_numbers (carried old shape) r)) ik ∙ ap (λ z. node a (number_of old a, x) (with_numbers (number_of old) k) z) ir)

-- ---- the numbers of new nodes

place_at : (a : ℕ) (pre post : List ℕ) → listed a pre ≡ false → place_in a (pre ++ a ∷ post) ≡ length pre
place_at a [] post h = (let e = eq-eqb a a refl in rw e refl)
place_at a (b ∷ pre) post h = elim (cases_Bool (b == a)) [
  | inl e ↦ absurd (true≢false (rw e at h))
  | inr e ↦ rw e (ap suc (place_at a pre post (rw e at h)))
]

-- going over the new addresses in their order, each gets the next number
pub next_number : (old : NumberedPage) (shape : Forest Look) (a : ℕ) (pre post : List ℕ) → on a (page_shape old) ≡ false → new_order old shape ≡ pre ++ a ∷ post → listed a pre ≡ false → carried old shape a ≡ old.next + length pre
next_number old shape a pre post z e h = new_number old shape a z ∙ (ap (λ y. old.next + place_in a y) e ∙ ap (λ y. old.next + y) (place_at a pre post h))

-- ---- the laws

pub read_law : ReadLaw
read_law p shape f q s o d = record { edits = found_edits_law p shape f q s d; order = found_order_law p shape f q s o d }

pub number_law : NumberLaw
number_law p shape = record { new = next_number p shape; kept = numbers_stay p shape }
