-- How far below the root a node stands, by the rows on the way.
use Rattle.std.proofs.Common.{◌≡◌, ℕ, zero, suc, ◌-◌, ◌<◌, ◌≤◌, ◌==◌, true, false, refl, sym, ap, ◌∙◌, arith, eqb-true, eq-eqb, inl, inr, if◌then◌else◌, Option, Some}
use Rattle.std.proofs.lemmas.Bool.{cases_Bool, false≢true}
use Rattle.page_model.specs.Forest.{Forest, on, parent, depth}
use Rattle.page_model.specs.Labels.{Kind}
use Rattle.page_model.proofs.Shared.{depth_low, depth_parent}
use Rattle.page_tree.specs.Queries.{depth_at}
use Rattle.page_tree.specs.Rows.{Row, IsKept, climbed, climbed_from, tree_in}
use Rattle.page_tree.proofs.Edits.{kept_some, off_top}
use Rattle.page_tree.proofs.Queries.{parent_on, row_there, tree_seen}

pub climb_step : (levels : ℕ) (rows : ℕ → Option Row) (n : ℕ) → 0 < levels → climbed levels rows n ≡ (if n == 0 then 0 else climbed_from (rows n) (climbed (levels - 1) rows))
climb_step zero rows n h = absurd (omega arith)
climb_step (suc levels) rows n h = (let e : suc levels - 1 ≡ levels = omega arith in rw e refl)

root_depth : (n : ℕ) (rows : ℕ → Option Row) (t : Forest Kind) → tree_in rows ≡ t → IsKept rows → (n == 0) ≡ true → 0 ≡ depth n t
root_depth n rows t e k z =
    let w = tree_seen rows t e k in
    let q : n ≡ 0 = eqb-true n 0 z in
    sym (ap (λ m. depth m t) q ∙ ap (depth 0) w.rooted.is)

other_zero : (n : ℕ) → (n == 0) ≡ false → (0 == n) ≡ false
other_zero n z = elim (cases_Bool (0 == n)) [
  | inl a ↦ (let q : 0 ≡ n = eqb-true 0 n a in absurd (false≢true (sym z ∙ eq-eqb n 0 (sym q))))
  | inr a ↦ a
]

climbed_is : (levels n : ℕ) (rows : ℕ → Option Row) (t : Forest Kind) → tree_in rows ≡ t → IsKept rows → on n t ≡ true → depth n t < levels → climbed levels rows n ≡ depth n t
climbed_is zero n rows t e k h l = absurd (omega arith)
climbed_is (suc levels) n rows t e k h l = elim (cases_Bool (n == 0)) [
  | inl z ↦ rw z (root_depth n rows t e k z)
  | inr z ↦ (
      let w = tree_seen rows t e k in
      let first = other_zero n z in
      let r = row_there rows t n e k h in
      let p : r.0.parent ≡ parent n t = (kept_some rows t n r.0 e k r.1).3 first in
      let sits = parent_on n t w h first in
      let up = depth_parent n t w.once h (off_top n t w first) in
      let i = climbed_is levels (parent n t) rows t e k sits.1 (omega (arith, up)) in
      let j = ap (climbed levels rows) p in
      rw (z, r.1) (omega (arith, i, j, up)))
]

pub depth_is : (n : ℕ) (rows : ℕ → Option Row) (t : Forest Kind) (r : Row) (d : ℕ) → tree_in rows ≡ t → IsKept rows → rows n ≡ Some r → d ≡ climbed 33 rows n → Some d ≡ depth_at n t
depth_is n rows t r d e k h c =
    let there = (kept_some rows t n r e k h).0 in
    let w = tree_seen rows t e k in
    let low = depth_low n t there in
    let b = w.low in
    let i = climbed_is 33 n rows t e k there (omega (arith, low, b)) in
    rw there (ap Some (c ∙ i))

pub depth_low_at : (n : ℕ) (rows : ℕ → Option Row) (t : Forest Kind) (r : Row) (d : ℕ) → tree_in rows ≡ t → IsKept rows → rows n ≡ Some r → d ≡ climbed 33 rows n → d ≤ 32
depth_low_at n rows t r d e k h c =
    let there = (kept_some rows t n r e k h).0 in
    let w = tree_seen rows t e k in
    let low = depth_low n t there in
    let b = w.low in
    let i = climbed_is 33 n rows t e k there (omega (arith, low, b)) in
    omega (arith, low, b, i, c)
