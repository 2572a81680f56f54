-- A table and the tree that it stands for.
use Rattle.std.proofs.Common.{◌≡◌, ℕ, zero, suc, ◌≤◌, ◌==◌, true, false, ◌||◌, refl, sym, ap, subst, ◌∙◌, arith, eqb-true, eq-eqb, inl, inr, if◌then◌else◌, [], ◌∷◌, Option, Some}
use Rattle.std.proofs.lemmas.Bool.{cases_Bool, false≢true}
use Rattle.page_model.specs.Forest.{Forest, none, node, after, has, only, without, put, on, tally, kids, parent, label_in, height, at, relabelled}
use Rattle.page_model.specs.Labels.{Root, Kind}
use Rattle.page_model.specs.Edits.{siblings}
use Rattle.page_model.specs.Replay.{Op, Done, do_op}
use Rattle.page_model.specs.Trees.{IsTree, Brings}
use Rattle.page_model.proofs.Shared.{at_away, or_left, or_right, off_has, on_tally, tally_off, siblings_at, tree_after}
use Rattle.page_tree.specs.Rows.{Row, build, tree_in, HaveRows, is_row, IsKept, edited, with_label}

-- the tree is built from the rows of its nodes
pub built_is : (d : ℕ) (rows : ℕ → Option Row) (above : ℕ) (f : Forest Kind) → HaveRows rows above f → height f ≤ d → build d rows (siblings f) ≡ f
built_is zero rows above none h l = refl
built_is (suc d) rows above none h l = refl
built_is zero rows above (node n x k r) h l = absurd (omega arith)
built_is (suc d) rows above (node n x k r) h l =
    let ik = built_is d rows n k h.1 (omega arith) in
    let ir = built_is (suc d) rows above r h.2 (omega arith) in
    rw (h.0, ik, ir) refl

-- the row of a node
abbrev pub row_at : ℕ → ℕ → Forest Kind → Row
row_at above n f = record { label = label_in Root n f; parent = if has n f then above else parent n f; children = siblings (kids n f) }

pub found : (rows : ℕ → Option Row) (above n : ℕ) (f : Forest Kind) → HaveRows rows above f → tally n f ≤ 1 → on n f ≡ true → rows n ≡ Some (row_at above n f)
found rows above n none h o e = absurd (false≢true e)
found rows above n (node m x k r) h o e = elim (cases_Bool (m == n)) [
  | inl a ↦ (let q : m ≡ n = eqb-true m n a in rw a (ap rows (sym q) ∙ h.0))
  | inr a ↦ elim (cases_Bool (on n k)) [
    | inl b ↦ (
        let many = on_tally n k b in
        let off : on n r ≡ false = tally_off n r (let z = rw a at o in omega (arith, many)) in
        let i = found rows m n k h.1 (let z = rw a at o in omega arith) b in
        rw (a, b, off_has n r off) i)
    | inr b ↦ (
        let i = found rows above n r h.2 (let z = rw a at o in omega arith) (rw (a, b) at e) in
        rw (a, b, off_has n k b) i)
  ]
]

pub holds_same : (rows rows' : ℕ → Option Row) (above : ℕ) (f : Forest Kind) → ((q : ℕ) → on q f ≡ true → rows' q ≡ rows q) → HaveRows rows above f → HaveRows rows' above f
holds_same rows rows' above none s h = tt
holds_same rows rows' above (node n x k r) s h = (
  s n (or_left (n == n) (on n k || on n r) (eq-eqb n n refl)) ∙ h.0,
  holds_same rows rows' n k (λ q e. s q (or_right (n == q) (on q k || on q r) (or_left (on q k) (on q r) e))) h.1,
  holds_same rows rows' above r (λ q e. s q (or_right (n == q) (on q k || on q r) (or_right (on q k) (on q r) e))) h.2,
)

pub holds_kids : (rows : ℕ → Option Row) (above p : ℕ) (f : Forest Kind) → HaveRows rows above f → HaveRows rows p (kids p f)
holds_kids rows above p none h = tt
holds_kids rows above p (node m x k r) h = elim (cases_Bool (m == p)) [
  | inl e ↦ (let q : m ≡ p = eqb-true m p e in let P : ℕ → Type 0 = λ i. HaveRows rows i k in rw e (subst P q h.1))
  | inr e ↦ elim (cases_Bool (on p k)) [
    | inl g ↦ rw (e, g) (holds_kids rows m p k h.1)
    | inr g ↦ rw (e, g) (holds_kids rows above p r h.2)
  ]
]

pub holds_after : (rows : ℕ → Option Row) (above : ℕ) (xs ys : Forest Kind) → HaveRows rows above xs → HaveRows rows above ys → HaveRows rows above (after xs ys)
holds_after rows above none ys a b = b
holds_after rows above (node n x k r) ys a b = (a.0, a.1, holds_after rows above r ys a.2 b)

pub holds_put : (rows : ℕ → Option Row) (above i : ℕ) (xs ys : Forest Kind) → HaveRows rows above xs → HaveRows rows above ys → HaveRows rows above (put i xs ys)
holds_put rows above zero xs ys a b = holds_after rows above xs ys a b
holds_put rows above (suc i) xs none a b = a
holds_put rows above (suc i) xs (node n x k r) a b = (b.0, b.1, holds_put rows above i xs r a b.2)

pub holds_only : (rows : ℕ → Option Row) (above n : ℕ) (xs : Forest Kind) → HaveRows rows above xs → HaveRows rows above (only n xs)
holds_only rows above n none h = tt
holds_only rows above n (node m x k r) h = elim (cases_Bool (m == n)) [
  | inl e ↦ rw e (h.0, h.1, tt)
  | inr e ↦ rw e (holds_only rows above n r h.2)
]

pub holds_without : (rows : ℕ → Option Row) (above n : ℕ) (xs : Forest Kind) → HaveRows rows above xs → HaveRows rows above (without n xs)
holds_without rows above n none h = tt
holds_without rows above n (node m x k r) h = elim (cases_Bool (m == n)) [
  | inl e ↦ rw e h.2
  | inr e ↦ rw e (h.0, h.1, holds_without rows above n r h.2)
]

pub apart_from : (j p : ℕ) (f : Forest Kind) → on j f ≡ true → on p f ≡ false → (j == p) ≡ false
apart_from j p f i off = elim (cases_Bool (j == p)) [
  | inl e ↦ (let q : j ≡ p = eqb-true j p e in absurd (false≢true (sym off ∙ (ap (λ n. on n f) (sym q) ∙ i))))
  | inr e ↦ e
]

-- the children of one node are others, and all else is as it was
pub holds_at : (rows rows' : ℕ → Option Row) (above p : ℕ) (g : Forest Kind → Forest Kind) (f : Forest Kind) → tally p f ≤ 1 → ((q : ℕ) → on q f ≡ true → (q == p) ≡ false → rows' q ≡ rows q) → ((x : Kind) (k : Forest Kind) (i : ℕ) → kids p f ≡ k → rows p ≡ Some (record { label = x; parent = i; children = siblings k }) → rows' p ≡ Some (record { label = x; parent = i; children = siblings (g k) })) → HaveRows rows' p (g (kids p f)) → HaveRows rows above f → HaveRows rows' above (at p g f)
holds_at rows rows' above p g none o s t new h = tt
holds_at rows rows' above p g (node m x k r) o s t new h =
    let up_k : (q : ℕ) → on q k ≡ true → on q (node m x k r) ≡ true = λ q e. or_right (m == q) (on q k || on q r) (or_left (on q k) (on q r) e) in
    let up_r : (q : ℕ) → on q r ≡ true → on q (node m x k r) ≡ true = λ q e. or_right (m == q) (on q k || on q r) (or_right (on q k) (on q r) e) in
    let there : on m (node m x k r) ≡ true = or_left (m == m) (on m k || on m r) (eq-eqb m m refl) in
    elim (cases_Bool (m == p)) [
      | inl e ↦ (
          let q : m ≡ p = eqb-true m p e in
          let off : on p r ≡ false = tally_off p r (let z = rw e at o in omega arith) in
          let t' = rw e at t in
          let new' : HaveRows rows' p (g k) = rw e at new in
          let P : ℕ → Type 0 = λ i. HaveRows rows' i (g k) in
          rw (e, at_away p g r off) (
            ap rows' q ∙ t' x k above refl (ap rows (sym q) ∙ h.0),
            subst P (sym q) new',
            holds_same rows rows' above r (λ j i. s j (up_r j i) (apart_from j p r i off)) h.2,
          ))
      | inr e ↦ elim (cases_Bool (on p k)) [
        | inl b ↦ (
            let many = on_tally p k b in
            let off : on p r ≡ false = tally_off p r (let z = rw e at o in omega (arith, many)) in
            let t' = rw (e, b) at t in
            let new' : HaveRows rows' p (g (kids p k)) = rw (e, b) at new in
            rw (e, at_away p g r off) (
              (rw (siblings_at p g k) (s m there e ∙ h.0)),
              holds_at rows rows' m p g k (let z = rw e at o in omega arith) (λ j i. s j (up_k j i)) t' new' h.1,
              holds_same rows rows' above r (λ j i. s j (up_r j i) (apart_from j p r i off)) h.2,
            ))
        | inr b ↦ (
            let t' = rw (e, b) at t in
            let new' : HaveRows rows' p (g (kids p r)) = rw (e, b) at new in
            rw (e, at_away p g k b) (
              s m there e ∙ h.0,
              holds_same rows rows' m k (λ j i. s j (up_k j i) (apart_from j p k i b)) h.1,
              holds_at rows rows' above p g r (let z = rw e at o in omega arith) (λ j i. s j (up_r j i)) t' new' h.2,
            ))
      ]
    ]

siblings_relabelled : (n : ℕ) (x : Kind) (f : Forest Kind) → siblings (relabelled n x f) ≡ siblings f
siblings_relabelled n x none = refl
siblings_relabelled n x (node m y k r) = ap (λ ns. m ∷ ns) (siblings_relabelled n x r)

pub holds_relabelled : (rows rows' : ℕ → Option Row) (above n : ℕ) (x : Kind) (f : Forest Kind) → ((q : ℕ) → rows' q ≡ edited n (with_label x) q (rows q)) → HaveRows rows above f → HaveRows rows' above (relabelled n x f)
holds_relabelled rows rows' above n x none s h = tt
holds_relabelled rows rows' above n x (node m y k r) s h = (
  s m ∙ (rw (h.0, siblings_relabelled n x k) (elim (cases_Bool (m == n)) [ inl e ↦ rw e refl | inr e ↦ rw e refl ])),
  holds_relabelled rows rows' m n x k s h.1,
  holds_relabelled rows rows' above n x r s h.2,
)

-- a table that stands for what an operation makes of the tree before
pub record Leads (op : Op) (rows rows' : ℕ → Option Row) : Type 0 where
  pub kept : IsKept rows'
  pub done : do_op op (tree_in rows) ≡ Done (tree_in rows')

tree_is : (rows : ℕ → Option Row) (u : Forest Kind) → IsTree u → HaveRows rows 0 u → tree_in rows ≡ u
unfolding tree_in
tree_is rows u w h =
    let b = w.rooted.below in
    let s : siblings u ≡ 0 ∷ [] = ap siblings w.rooted.is in
    ap (build 33 rows) (sym s) ∙ built_is 33 rows 0 u h w.low

pub leads : (op : Op) (rows rows' : ℕ → Option Row) (u : Forest Kind) → IsKept rows → Brings op → do_op op (tree_in rows) ≡ Done u → HaveRows rows' 0 u → ((n : ℕ) → is_row (rows' n) ≡ true → on n u ≡ true) → Leads op rows rows'
leads op rows rows' u k b d h j =
    let w = tree_after op (tree_in rows) u k.tree b d in
    let e = tree_is rows' u w h in
    let P : Forest Kind → Type 0 = IsTree in
    let Q : Forest Kind → Type 0 = λ t. HaveRows rows' 0 t in
    record {
      kept = record {
        tree = subst P (sym e) w;
        held = subst Q (sym e) h;
        just = λ n i. ap (on n) e ∙ j n i;
      };
      done = d ∙ ap Done (sym e);
    }
