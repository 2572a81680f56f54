-- The steps between the numbers of children are the edits of pages. The words of `keyed_each` on numbers compute to those of pages.
use Rattle.std.proofs.Common.{◌≡◌, ℕ, suc, ◌==◌, nat_eq, Bool, true, false, ◌||◌, refl, sym, ap, ◌∙◌, eqb-true, eq-eqb, inl, inr, List, [], ◌∷◌}
use Rattle.std.specs.List.{IsDistinct}
use Rattle.std.proofs.lemmas.Bool.{cases_Bool, true≢false}
use Rattle.keyed_each.specs.Keys.{numbers_decide}
use Rattle.keyed_each.specs.Steps.{steps_between, steps_from}
use Rattle.keyed_each.proofs.Distinct.{Apart, apart}
use Rattle.page_model.specs.Edits.{child_edits, listed, placed, put_at, siblings, taken}
use Rattle.page_model.specs.Forest.{Forest, none, node}
use Rattle.page_model.specs.Labels.{Kind}
use Rattle.page_model.specs.Pages.{those}
use Rattle.page_model.specs.Replay.{OpInsert, OpMove}
use Rattle.page_model.proofs.Shared.{or_left, or_right, not_same}
use Rattle.tpl_model.specs.NextPage.Arrivals.{coming}
use Rattle.tpl_patch.specs.Spelled.{spelled}

-- ---- what is listed still

still_put : (i n j : ℕ) (ms : List ℕ) → (n == j) ≡ false → listed j (put_at i n ms) ≡ listed j ms
still_put ℕ.zero n j ms d = rw d refl
still_put (suc i) n j [] d = rw d refl
still_put (suc i) n j (m ∷ ms) d = ap (λ b. (m == j) || b) (still_put i n j ms d)

still_taken : (n j : ℕ) (ms : List ℕ) → (n == j) ≡ false → listed j (taken n ms) ≡ listed j ms
still_taken n j [] d = refl
still_taken n j (m ∷ ms) d = elim (cases_Bool (m == n)) [
  | inl e ↦ (let q : (m == j) ≡ false = ap (λ z. z == j) (eqb-true m n e) ∙ d in rw e (rw q refl))
  | inr e ↦ rw e (ap (λ b. (m == j) || b) (still_taken n j ms d))
]

still_those : (j : ℕ) (news ms : List ℕ) → listed j news ≡ true → listed j ms ≡ listed j (those (λ m. listed m news) ms)
still_those j news [] h = refl
still_those j news (m ∷ ms) h = elim (cases_Bool (listed m news)) [
  | inl e ↦ rw e (ap (λ b. (m == j) || b) (still_those j news ms h))
  | inr e ↦ (
      let q : (m == j) ≡ false = elim (cases_Bool (m == j)) [
        | inl f ↦ absurd (true≢false (sym h ∙ (sym (ap (λ z. listed z news) (eqb-true m j f)) ∙ e)))
        | inr f ↦ f
      ] in
      rw (e, q) (still_those j news ms h))
]

-- ---- from each place on

steps_linked : (p i : ℕ) (olds now : List ℕ) (stood : ℕ → Bool) (row : Forest Kind) → Apart nat_eq (siblings row) →
    ((j : ℕ) → listed j (siblings row) ≡ true → stood j ≡ listed j now) →
    child_edits p i now row ≡ spelled p i (siblings row) (steps_from nat_eq olds i now (siblings row)) (coming stood row)
steps_linked p i olds now stood none a h = refl
steps_linked p i olds now stood (node n x k r) a h =
    let here = h n (or_left (n == n) (listed n (siblings r)) (eq-eqb n n refl)) in
    let later : (j : ℕ) → listed j (siblings r) ≡ true → stood j ≡ listed j now = λ j e. h j (or_right (n == j) (listed j (siblings r)) e) in
    let apart_from : (j : ℕ) → listed j (siblings r) ≡ true → (n == j) ≡ false = λ j e. not_same n j (siblings r) a.0 e in
    elim (cases_Bool (listed n now)) [
      | inl e ↦ (
          let s = here ∙ e in
          elim (cases_Bool (placed n i now)) [
            | inl f ↦ rw (e, f, s) (steps_linked p (suc i) olds now stood r a.1 later)
            | inr f ↦ (
                let ih = steps_linked p (suc i) olds (put_at i n (taken n now)) stood r a.1
                (λ j g. later j g ∙ sym (still_put i n j (taken n now) (apart_from j g) ∙ still_taken n j now (apart_from j g))) in
                rw (e, f, s) (ap (λ z. OpMove n i ∷ z) ih))
          ])
      | inr e ↦ (
          let s = here ∙ e in
          let ih = steps_linked p (suc i) olds (put_at i n now) stood r a.1 (λ j g. later j g ∙ sym (still_put i n j now (apart_from j g))) in
          rw (e, s) (ap (λ z. OpInsert p i n x k ∷ z) ih))
    ]

-- from the first on: a child moves exactly where it doesn't stand at its place
pub linked : (p : ℕ) (olds : List ℕ) (row : Forest Kind) → IsDistinct nat_eq (siblings row) →
    child_edits p 0 (those (λ m. listed m (siblings row)) olds) row
    ≡ spelled p 0 (siblings row) (steps_between nat_eq olds (siblings row)) (coming (λ m. listed m olds) row)
linked p olds row d =
    let news = siblings row in
    steps_linked p 0 olds (those (λ m. listed m news) olds) (λ m. listed m olds) row (apart nat_eq numbers_decide news d) (λ j h. still_those j news olds h)
