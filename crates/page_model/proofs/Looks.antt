-- A page's nodes by address and by number.
use Rattle.std.proofs.Common.{◌≡◌, ℕ, ◌≤◌, ◌==◌, true, refl, sym, ap, arith, eqb-true, inl, inr}
use Rattle.std.proofs.lemmas.Bool.{cases_Bool, false≢true}
use Rattle.page_model.specs.Forest.{Forest, none, node, on, tally, label_in, numbered}
use Rattle.page_model.specs.Labels.{Root, Look}
use Rattle.page_model.specs.Pages.{NumberedPage, looks, by_number, number_of, with_numbers}
use Rattle.page_model.proofs.Linked.{Tells, tells}

pub on_looks : (a : ℕ) (t : Forest (ℕ × Look)) → on a (looks t) ≡ on a t
on_looks a none = refl
on_looks a (node m x k r) = rw (on_looks a k, on_looks a r) refl

pub tally_looks : (a : ℕ) (t : Forest (ℕ × Look)) → tally a (looks t) ≡ tally a t
tally_looks a none = refl
tally_looks a (node m x k r) = rw (tally_looks a k, tally_looks a r) refl

pub looks_with : (num : ℕ → ℕ) (s : Forest Look) → looks (with_numbers num s) ≡ s
looks_with num none = refl
looks_with num (node m x k r) = rw (looks_with num k, looks_with num r) refl

pub by_number_with : (num : ℕ → ℕ) (s : Forest Look) → by_number (with_numbers num s) ≡ numbered num s
by_number_with num none = refl
by_number_with num (node m x k r) = rw (by_number_with num k, by_number_with num r) refl

pub on_with : (num : ℕ → ℕ) (a : ℕ) (s : Forest Look) → on a (with_numbers num s) ≡ on a s
on_with num a none = refl
on_with num a (node m x k r) = rw (on_with num a k, on_with num a r) refl

pub number_with : (num : ℕ → ℕ) (a : ℕ) (s : Forest Look) → on a s ≡ true → (label_in (0, Root) a (with_numbers num s)).0 ≡ num a
number_with num a none o = absurd (false≢true o)
number_with num a (node m x k r) o = elim (cases_Bool (m == a)) [
  | inl e ↦ (let q : m ≡ a = eqb-true m a e in rw e (ap num q))
  | inr e ↦ elim (cases_Bool (on a k)) [
    | inl f ↦ rw (e, on_with num a k, f) (number_with num a k f)
    | inr f ↦ rw (e, on_with num a k, f) (number_with num a r (rw (e, f) at o))
  ]
]

by_number_tells : (lab : ℕ → ℕ × Look) (t : Forest (ℕ × Look)) → Tells lab t → by_number t ≡ numbered (λ a. (lab a).0) (looks t)
by_number_tells lab none h = refl
by_number_tells lab (node m x k r) h = rw (by_number_tells lab k h.1, by_number_tells lab r h.2) (ap (λ z. node z x.1 (numbered (λ a. (lab a).0) (looks k)) (numbered (λ a. (lab a).0) (looks r))) (sym (ap (λ z. z.0) h.0)))

pub by_number_is : (p : NumberedPage) → ((a : ℕ) → tally a (looks p.nodes) ≤ 1) → by_number p.nodes ≡ numbered (number_of p) (looks p.nodes)
by_number_is p l = by_number_tells (λ a. label_in (0, Root) a p.nodes) p.nodes (tells (0, Root) p.nodes (λ a. (let i = l a in let j = tally_looks a p.nodes in omega arith)))
