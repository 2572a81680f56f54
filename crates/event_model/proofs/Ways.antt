-- No way on a tree is cut off.
use Rattle.std.proofs.Common.{◌≡◌, ℕ, zero, suc, ◌≤◌, ◌==◌, true, false, not, cond, List, [], ◌∷◌, refl, sym, ap, subst, arith, inl, inr}
use Rattle.std.proofs.lemmas.Bool.{cases_Bool}
use Rattle.page_model.specs.Forest.{Forest, depth, has, on, parent}
use Rattle.page_model.specs.Labels.{Kind}
use Rattle.page_model.specs.Replay.{below_root}
use Rattle.page_model.specs.Trees.{IsTree}
use Rattle.page_model.proofs.Shared.{both, depth_low, depth_parent, has_parent, not_zero}
use Rattle.event_model.specs.Ways.{way, way_within}

-- below the root a node has a parent, one step higher
record IsBelow (n : ℕ) (now : Forest Kind) : Type 0 where
  there : on (parent n now) now ≡ true
  deep : depth n now ≡ suc (depth (parent n now) now)

lies_below : (n : ℕ) (now : Forest Kind) → IsTree now → below_root n now ≡ true → IsBelow n now
lies_below n now t b =
    let o = both (on n now) (not (n == 0)) b in
    let off : has n now ≡ false = subst (λ (z : Forest Kind). has n z ≡ false) (sym t.rooted.is) (rw (not_zero n o.1) refl) in
    record { there = (has_parent n now t.once o.0 off).1; deep = depth_parent n now t.once o.0 off }

-- the root has no way, and one step more leaves a way as it is where it is long enough
longer : (more n : ℕ) (now : Forest Kind) → IsTree now → (on n now ≡ true → depth n now ≤ more) → way_within more n now ≡ way_within (suc more) n now
longer zero n now t h = elim (cases_Bool (below_root n now)) [
  | inl e ↦ (
      let i = lies_below n now t e in
      let d = h (both (on n now) (not (n == 0)) e).0 in
      let deep = i.deep in
      absurd (omega (arith, d, deep)))
  | inr e ↦ rw e refl
]
longer (suc more) n now t h = elim (cases_Bool (below_root n now)) [
  | inl e ↦ (
      let i = lies_below n now t e in
      let d = h (both (on n now) (not (n == 0)) e).0 in
      let deep = i.deep in
      let l : depth (parent n now) now ≤ more = omega (arith, d, deep) in
      rw e (ap (λ (ns : List ℕ). n ∷ ns) (longer more (parent n now) now t (λ z. l))))
  | inr e ↦ rw e refl
]

pub way_by_parent : (n : ℕ) (now : Forest Kind) → IsTree now → way n now ≡ cond (below_root n now) (n ∷ way (parent n now) now) []
unfolding way
way_by_parent n now t = elim (cases_Bool (below_root n now)) [
  | inl e ↦ (
      let i = lies_below n now t e in
      let o = both (on n now) (not (n == 0)) e in
      let deep = i.deep in
      let low = depth_low n now o.0 in
      let most = t.low in
      let l : depth (parent n now) now ≤ 31 = omega (arith, deep, low, most) in
      rw e (ap (λ (ns : List ℕ). n ∷ ns) (longer 31 (parent n now) now t (λ z. l))))
  | inr e ↦ rw e refl
]
