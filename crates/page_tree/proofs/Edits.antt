-- What the edits of a table do to its tree.
use Rattle.std.proofs.Common.{◌≡◌, ℕ, suc, ◌+◌, ◌≤◌, ◌==◌, Bool, true, false, ◌||◌, ◌&&◌, not, refl, sym, ap, subst, ◌∙◌, arith, eqb-true, eq-eqb, inl, inr, leb, ltb, if◌then◌else◌, List, [], ◌∷◌, ◌++◌, Option, Some, None}
use Rattle.std.proofs.lemmas.Bool.{cases_Bool, false≢true}
use Rattle.page_model.specs.Forest.{Forest, none, node, count, has, only, without, put, moved, on, tally, kids, parent, label_in, height, depth, at, pruned, relabelled}
use Rattle.page_model.specs.Labels.{Root, Text, Element, Kind, holds}
use Rattle.page_model.specs.Edits.{siblings, put_at, taken}
use Rattle.page_model.specs.Replay.{Op, OpRemove, OpInsert, OpMove, OpText, OpAttr, OpUnattr, Answer, Done, Refused, NoSuchNode, NoSuchPlace, NumberUsed, TooDeep, do_op, below_root, first_used, first_deep, others, put_in}
use Rattle.page_model.specs.Trees.{IsTree, Brings}
use Rattle.page_model.proofs.Shared.{at_away, or_false, or_left, or_right, off_tally, on_tally, tally_off, tally_on, has_on, has_parent, on_kids, tally_kids, on_relabelled, siblings_moved, siblings_put, siblings_without, attr_done, text_done, unattr_done, both, done_if, found_none, if_done, not_zero, tally_inserted, tally_kept, tally_parted, unused, on_at, knows, knows_kids, tells, tells_kids, only_known, flipped}
use Rattle.page_tree.specs.Rows.{Row, written, tree_in, HaveRows, is_row, IsKept, edited, with_label, with_children, with_attributes, reattributed, gone, cut, children_of}
use Rattle.page_tree.specs.Queries.{IsDone}
use Rattle.page_tree.specs.Subs.{rows_of, after_rows}
use Rattle.page_tree.proofs.Tables.{Leads, leads, row_at, found, holds_same, holds_kids, holds_put, holds_only, holds_without, holds_at, holds_relabelled, apart_from}
use Rattle.page_tree.proofs.Cuts.{cut_is}

pub is_done : (a : Answer) → IsDone a → (u : Forest Kind) × (a ≡ Done u)
is_done (Done t) d = (t, refl)
is_done (Refused why) d = absurd d

-- ---- edits of one row

row_edited : (id : ℕ) (f : Row → Row) (q : ℕ) (o : Option Row) → is_row (edited id f q o) ≡ true → is_row o ≡ true
row_edited id f q None h = h
row_edited id f q (Some r) h = refl

edited_other : (id : ℕ) (f : Row → Row) (q : ℕ) (o : Option Row) → (q == id) ≡ false → edited id f q o ≡ o
edited_other id f q None e = refl
edited_other id f q (Some r) e = rw e refl

row_still : (id : ℕ) (f : Row → Row) (q : ℕ) (w o : Option Row) → w ≡ edited id f q o → is_row w ≡ true → is_row o ≡ true
row_still id f q w o e h = row_edited id f q o (ap is_row (sym e) ∙ h)

relabel_leads : (op : Op) (x : Kind) (n : ℕ) (rows rows' : ℕ → Option Row) (u : Forest Kind) → IsKept rows → Brings op → do_op op (tree_in rows) ≡ Done u → relabelled n x (tree_in rows) ≡ u → ((q : ℕ) → rows' q ≡ edited n (with_label x) q (rows q)) → Leads op rows rows'
relabel_leads op x n rows rows' u k b d r s =
    let t = tree_in rows in
    let P : Forest Kind → Type 0 = λ z. HaveRows rows' 0 z in
    leads op rows rows' u k b d (subst P r (holds_relabelled rows rows' 0 n x t s k.held))
    (λ m i. ap (on m) (sym r) ∙ (on_relabelled m n x t ∙ k.just m (row_still n (with_label x) m (rows' m) (rows m) (s m) i)))

-- other attributes of one element as another label
same_edit : (n : ℕ) (f : List (List ℕ × List ℕ) → List (List ℕ × List ℕ)) (e : List ℕ) (xs : List (List ℕ × List ℕ)) (q : ℕ) (o : Option Row) → ((q == n) ≡ true → (r : Row) → o ≡ Some r → r.label ≡ Element e xs) → edited n (with_attributes f) q o ≡ edited n (with_label (Element e (f xs))) q o
same_edit n f e xs q None h = refl
same_edit n f e xs q (Some r) h = elim (cases_Bool (q == n)) [
  | inl c ↦ rw c (ap (λ x. Some (with_label x r)) (ap (reattributed f) (h c r refl)))
  | inr c ↦ rw c refl
]

-- the row of an element
element_row : (rows : ℕ → Option Row) (n : ℕ) (e : List ℕ) (xs : List (List ℕ × List ℕ)) → IsKept rows → label_in Root n (tree_in rows) ≡ Element e xs → (q : ℕ) → (q == n) ≡ true → (r : Row) → rows q ≡ Some r → r.label ≡ Element e xs
element_row rows n e xs k l q c r h =
    let t = tree_in rows in
    let same : q ≡ n = eqb-true q n c in
    let there : on n t ≡ true = ap (λ i. on i t) (sym same) ∙ k.just q (ap is_row h) in
    let f = found rows 0 n t k.held (k.tree.once n) there in
    let g : Some (row_at 0 n t) ≡ Some r = sym f ∙ (ap rows (sym same) ∙ h) in
    let w : row_at 0 n t ≡ r = cc in
    ap (λ z. z.label) (sym w) ∙ l

pub text_leads : (n : ℕ) (v : List ℕ) (rows rows' : ℕ → Option Row) → IsKept rows → IsDone (do_op (OpText n v) (tree_in rows)) → ((q : ℕ) → rows' q ≡ edited n (with_label (Text v)) q (rows q)) → Leads (OpText n v) rows rows'
text_leads n v rows rows' k d s =
    let u = is_done (do_op (OpText n v) (tree_in rows)) d in
    let w = text_done n v (label_in Root n (tree_in rows)) (tree_in rows) u.0 u.1 in
    relabel_leads (OpText n v) (Text v) n rows rows' u.0 k tt u.1 w.2 s

pub attr_leads : (n i : ℕ) (name value : List ℕ) (rows rows' : ℕ → Option Row) → IsKept rows → IsDone (do_op (OpAttr n i name value) (tree_in rows)) → ((q : ℕ) → rows' q ≡ edited n (with_attributes (λ xs. put_in i (name, value) (others name xs))) q (rows q)) → Leads (OpAttr n i name value) rows rows'
attr_leads n i name value rows rows' k d s =
    let op = OpAttr n i name value in
    let f : List (List ℕ × List ℕ) → List (List ℕ × List ℕ) = λ xs. put_in i (name, value) (others name xs) in
    let u = is_done (do_op op (tree_in rows)) d in
    let w = attr_done n i name value (label_in Root n (tree_in rows)) (tree_in rows) u.0 u.1 in
    relabel_leads op (Element w.0 (f w.1)) n rows rows' u.0 k tt u.1 w.3
    (λ q. s q ∙ same_edit n f w.0 w.1 q (rows q) (element_row rows n w.0 w.1 k w.2 q))

pub unattr_leads : (n : ℕ) (name : List ℕ) (rows rows' : ℕ → Option Row) → IsKept rows → IsDone (do_op (OpUnattr n name) (tree_in rows)) → ((q : ℕ) → rows' q ≡ edited n (with_attributes (others name)) q (rows q)) → Leads (OpUnattr n name) rows rows'
unattr_leads n name rows rows' k d s =
    let op = OpUnattr n name in
    let u = is_done (do_op op (tree_in rows)) d in
    let w = unattr_done n name (label_in Root n (tree_in rows)) (tree_in rows) u.0 u.1 in
    relabel_leads op (Element w.0 (others name w.1)) n rows rows' u.0 k tt u.1 w.3
    (λ q. s q ∙ same_edit n (others name) w.0 w.1 q (rows q) (element_row rows n w.0 w.1 k w.2 q))

-- ---- edits of the children of one node

-- a node doesn't stand below itself
off_own : (p : ℕ) (t : Forest Kind) → tally p t ≤ 1 → on p t ≡ true → on p (kids p t) ≡ false
off_own p none o e = absurd (false≢true e)
off_own p (node m x k r) o e = elim (cases_Bool (m == p)) [
  | inl a ↦ rw a (tally_off p k (let z = rw a at o in omega arith))
  | inr a ↦ elim (cases_Bool (on p k)) [
    | inl b ↦ rw (a, b) (off_own p k (let z = rw a at o in omega arith) b)
    | inr b ↦ rw (a, b) (off_own p r (let z = rw a at o in omega arith) (rw (a, b) at e))
  ]
]

children_row : (p : ℕ) (g : List ℕ → List ℕ) (h : Forest Kind → Forest Kind) (x : Kind) (k : Forest Kind) (i : ℕ) (w o : Option Row) → w ≡ edited p (with_children g) p o → siblings (h k) ≡ g (siblings k) → o ≡ Some (record { label = x; parent = i; children = siblings k }) → w ≡ Some (record { label = x; parent = i; children = siblings (h k) })
children_row p g h x k i w o e s f =
    let self : (p == p) ≡ true = eq-eqb p p refl in
    e ∙ (rw (f, self, s) refl)

-- a node other than the root stands below it
pub off_top : (n : ℕ) (t : Forest Kind) → IsTree t → (0 == n) ≡ false → has n t ≡ false
off_top n t w e = ap (has n) w.rooted.is ∙ (rw e refl)

-- what a table holds where the children of one node are edited
holds_edited : (p : ℕ) (g : List ℕ → List ℕ) (h : Forest Kind → Forest Kind) (rows rows' : ℕ → Option Row) → IsKept rows → on p (tree_in rows) ≡ true → ((q : ℕ) → on q (tree_in rows) ≡ true → rows' q ≡ edited p (with_children g) q (rows q)) → siblings (h (kids p (tree_in rows))) ≡ g (siblings (kids p (tree_in rows))) → (HaveRows rows' p (kids p (tree_in rows)) → HaveRows rows' p (h (kids p (tree_in rows)))) → HaveRows rows' 0 (at p h (tree_in rows))
holds_edited p g h rows rows' k there s e keeps =
    let t = tree_in rows in
    let o = k.tree.once in
    let own = off_own p t (o p) there in
    let below : HaveRows rows' p (kids p t) = holds_same rows rows' p (kids p t) (λ q i. s q (on_kids p q t i) ∙ edited_other p (with_children g) q (rows q) (apart_from q p (kids p t) i own)) (holds_kids rows 0 p t k.held) in
    holds_at rows rows' 0 p h t (o p)
    (λ q i a. s q i ∙ edited_other p (with_children g) q (rows q) a)
    (λ x c i z f. (let e' : siblings (h c) ≡ g (siblings c) = ap (λ y. siblings (h y)) (sym z) ∙ (e ∙ ap (λ y. g (siblings y)) z) in children_row p g h x c i (rows' p) (rows p) (s p there) e' f))
    (keeps below) k.held

pub move_leads : (n i : ℕ) (rows rows' : ℕ → Option Row) → IsKept rows → IsDone (do_op (OpMove n i) (tree_in rows)) → ((q : ℕ) → rows' q ≡ edited (parent n (tree_in rows)) (with_children (λ ns. put_at i n (taken n ns))) q (rows q)) → Leads (OpMove n i) rows rows'
move_leads n i rows rows' k d s =
    let t = tree_in rows in
    let p = parent n t in
    let g : List ℕ → List ℕ = λ ns. put_at i n (taken n ns) in
    let u = is_done (do_op (OpMove n i) t) d in
    let d1 = if_done (below_root n t) _ u.0 (NoSuchNode n) u.1 in
    let d2 = done_if (ltb i (count (kids p t))) (at p (moved n i) t) u.0 (NoSuchPlace i) d1.1 in
    let b = both (on n t) (not (n == 0)) d1.0 in
    let sits = has_parent n t k.tree.once b.0 (off_top n t k.tree (not_zero n b.1)) in
    let h = holds_edited p g (moved n i) rows rows' k sits.1 (λ q e. s q) (siblings_moved n i (kids p t) sits.0)
    (λ w. holds_put rows' p i (only n (kids p t)) (without n (kids p t)) (holds_only rows' p n (kids p t) w) (holds_without rows' p n (kids p t) w)) in
    let P : Forest Kind → Type 0 = λ z. HaveRows rows' 0 z in
    leads (OpMove n i) rows rows' u.0 k tt u.1 (subst P d2.1 h)
    (λ m e. (
    let on_t = k.just m (row_still p (with_children g) m (rows' m) (rows m) (s m) e) in
    let many = on_tally m t on_t in
    let same = tally_kept m p n i t (k.tree.once p) sits.1 in
    ap (on m) (sym d2.1) ∙ tally_on m (at p (moved n i) t) (omega (arith, many, same))))

-- ---- an insertion

after_both : (q : ℕ) (xs ys : List (ℕ × Row)) (o : Option Row) → after_rows q (xs ++ ys) o ≡ after_rows q ys (after_rows q xs o)
after_both q [] ys o = refl
after_both q (x ∷ xs) ys o = after_both q xs ys (written x.0 x.1 q o)

-- a number that isn't among those that come keeps its row
after_other : (q above : ℕ) (s : Forest Kind) (o : Option Row) → on q s ≡ false → after_rows q (rows_of above s) o ≡ o
after_other q above none o e = refl
after_other q above (node n x k r) o e =
    let b = or_false (n == q) (on q k) (on q r) e in
    let row : Row = record { label = x; parent = above; children = siblings k } in
    let skip : written n row q o ≡ o = rw (flipped n q b.0) refl in
    after_both q (rows_of n k) (rows_of above r) (written n row q o)
    ∙ (ap (λ w. after_rows q (rows_of above r) (after_rows q (rows_of n k) w)) skip
    ∙ (ap (after_rows q (rows_of above r)) (after_other q n k o b.1) ∙ after_other q above r o b.2))

after_holds : (above : ℕ) (s : Forest Kind) (rows : ℕ → Option Row) → ((j : ℕ) → tally j s ≤ 1) → HaveRows (λ q. after_rows q (rows_of above s) (rows q)) above s
after_holds above none rows o = tt
after_holds above (node n x k r) rows o =
    let row : Row = record { label = x; parent = above; children = siblings k } in
    let self : (n == n) ≡ true = eq-eqb n n refl in
    let on_n = rw self at (o n) in
    let off_k : on n k ≡ false = tally_off n k (omega arith) in
    let off_r : on n r ≡ false = tally_off n r (omega arith) in
    let first : ℕ → Option Row = λ q. written n row q (rows q) in
    let all : ℕ → Option Row = λ q. after_rows q (rows_of n k ++ rows_of above r) (first q) in
    let parts : (q : ℕ) → all q ≡ after_rows q (rows_of above r) (after_rows q (rows_of n k) (first q)) = λ q. after_both q (rows_of n k) (rows_of above r) (first q) in
    let ik = after_holds n k first (λ j. (let z = o j in omega arith)) in
    let ir = after_holds above r (λ q. after_rows q (rows_of n k) (first q)) (λ j. (let z = o j in omega arith)) in
    let away : (q : ℕ) → on q k ≡ true → on q r ≡ false = λ q i. tally_off q r (let z = o q in let w = on_tally q k i in omega arith) in
    let here : first n ≡ Some row = rw self refl in (
      parts n ∙ (ap (after_rows n (rows_of above r)) (after_other n n k (first n) off_k) ∙ (after_other n above r (first n) off_r ∙ here)),
      holds_same (λ q. after_rows q (rows_of n k) (first q)) all n k (λ q i. parts q ∙ after_other q above r (after_rows q (rows_of n k) (first q)) (away q i)) ik,
      holds_same (λ q. after_rows q (rows_of above r) (after_rows q (rows_of n k) (first q))) all above r (λ q i. parts q) ir,
    )

pub insert_leads : (p i n : ℕ) (x : Kind) (k : Forest Kind) (rows rows' : ℕ → Option Row) → IsKept rows → Brings (OpInsert p i n x k) → IsDone (do_op (OpInsert p i n x k) (tree_in rows)) → ((q : ℕ) → rows' q ≡ after_rows q (rows_of p (node n x k none)) (edited p (with_children (put_at i n)) q (rows q))) → Leads (OpInsert p i n x k) rows rows'
insert_leads p i n x k rows rows' w b d s =
    let op = OpInsert p i n x k in
    let t = tree_in rows in
    let new = node n x k none in
    let o = w.tree.once in
    let u = is_done (do_op op t) d in
    let d1 = if_done (on p t && holds (label_in Root p t)) _ u.0 (NoSuchNode p) u.1 in
    let d2 = if_done (leb i (count (kids p t))) _ u.0 (NoSuchPlace i) d1.1 in
    let d3 = found_none NumberUsed (first_used new new t) _ u.0 d2.1 in
    let d4 = found_none TooDeep (first_deep (suc (depth p t)) new) (Done (at p (put i new) t)) u.0 d3.1 in
    let there = both (on p t) (holds (label_in Root p t)) d1.0 in
    let is_u : at p (put i new) t ≡ u.0 = (let z = d4.1 in cc) in
    let fresh : (j : ℕ) → on j new ≡ true → (on j t ≡ false) × (tally j new ≤ 1) = unused new new t d3.0 in
    let once_new : (j : ℕ) → tally j new ≤ 1 = λ j. elim (cases_Bool (on j new)) [
      | inl e ↦ (fresh j e).1
      | inr e ↦ (let z = off_tally j new e in omega (arith, z))
    ] in
    let old_off : (j : ℕ) → on j t ≡ true → on j new ≡ false = λ j e. elim (cases_Bool (on j new)) [
      | inl f ↦ absurd (false≢true (sym (fresh j f).0 ∙ e))
      | inr f ↦ f
    ] in
    let g : ℕ → Option Row = λ q. edited p (with_children (put_at i n)) q (rows q) in
    let brought : HaveRows rows' p new = holds_same (λ q. after_rows q (rows_of p new) (g q)) rows' p new (λ q e. s q) (after_holds p new g once_new) in
    let h = holds_edited p (put_at i n) (put i new) rows rows' w there.0 (λ q e. s q ∙ after_other q p new (g q) (old_off q e)) (siblings_put i n x k (kids p t)) (λ z. holds_put rows' p i new (kids p t) brought z) in
    let P : Forest Kind → Type 0 = λ z. HaveRows rows' 0 z in
    leads op rows rows' u.0 w b u.1 (subst P is_u h)
    (λ m e. (
    let sum = tally_inserted m p i new t (o p) there.0 in
    let on_u : on m (at p (put i new) t) ≡ true = elim (cases_Bool (on m new)) [
      | inl f ↦ (let z = on_tally m new f in tally_on m (at p (put i new) t) (omega (arith, sum, z)))
      | inr f ↦ (
          let on_t = w.just m (row_still p (with_children (put_at i n)) m (rows' m) (rows m) (s m ∙ after_other m p new (g m) f) e) in
          let z = on_tally m t on_t in tally_on m (at p (put i new) t) (omega (arith, sum, z)))
    ] in
    ap (on m) (sym is_u) ∙ on_u))

-- ---- a removal

pruned_off : (n : ℕ) (t : Forest Kind) → on n t ≡ false → pruned (λ m. not (m == n)) t ≡ t
pruned_off n none e = refl
pruned_off n (node m x k r) e =
    let b = or_false (m == n) (on n k) (on n r) e in
    rw (b.0, pruned_off n k b.1, pruned_off n r b.2) refl

pruned_top : (n : ℕ) (t : Forest Kind) → tally n t ≤ 1 → has n t ≡ true → pruned (λ m. not (m == n)) t ≡ without n t
pruned_top n none o h = refl
pruned_top n (node m x k r) o h = elim (cases_Bool (m == n)) [
  | inl e ↦ rw e (pruned_off n r (tally_off n r (let z = rw e at o in omega arith)))
  | inr e ↦ (
      let h' : has n r ≡ true = rw e at h in
      let many = on_tally n r (has_on n r h') in
      let off : on n k ≡ false = tally_off n k (let z = rw e at o in omega (arith, many)) in
      rw (e, pruned_off n k off, pruned_top n r (let z = rw e at o in omega arith) h') refl)
]

-- without a node and all below it
pruned_without : (n p : ℕ) (t : Forest Kind) → tally n t ≤ 1 → tally p t ≤ 1 → on p t ≡ true → has n (kids p t) ≡ true → pruned (λ m. not (m == n)) t ≡ at p (without n) t
pruned_without n p none o o' e h = refl
pruned_without n p (node m x k r) o o' e h =
    let below : 1 ≤ tally n k + tally n r = elim (cases_Bool (m == p)) [
      | inl a ↦ (let z = on_tally n k (has_on n k (rw a at h)) in omega (arith, z))
      | inr a ↦ elim (cases_Bool (on p k)) [
        | inl b ↦ (let z = on_tally n (kids p k) (has_on n (kids p k) (rw (a, b) at h)) in let w = tally_kids p n k in omega (arith, z, w))
        | inr b ↦ (let z = on_tally n (kids p r) (has_on n (kids p r) (rw (a, b) at h)) in let w = tally_kids p n r in omega (arith, z, w))
      ]
    ] in
    let other : (m == n) ≡ false = elim (cases_Bool (m == n)) [ inl a ↦ (let z = rw a at o in absurd (omega (arith, z, below))) | inr a ↦ a ] in
    let on_o = rw other at o in
    elim (cases_Bool (m == p)) [
      | inl a ↦ (
          let h' : has n k ≡ true = rw a at h in
          let many = on_tally n k (has_on n k h') in
          let off : on n r ≡ false = tally_off n r (omega (arith, many, on_o)) in
          let off_p : on p r ≡ false = tally_off p r (let z = rw a at o' in omega arith) in
          rw (other, a, pruned_top n k (omega (arith, on_o)) h', pruned_off n r off, at_away p (without n) r off_p) refl)
      | inr a ↦ elim (cases_Bool (on p k)) [
        | inl b ↦ (
            let h' : has n (kids p k) ≡ true = rw (a, b) at h in
            let many = on_tally n k (on_kids p n k (has_on n (kids p k) h')) in
            let off : on n r ≡ false = tally_off n r (omega (arith, many, on_o)) in
            let more = on_tally p k b in
            let off_p : on p r ≡ false = tally_off p r (let z = rw a at o' in omega (arith, more)) in
            rw (other, a, pruned_without n p k (omega (arith, on_o)) (let z = rw a at o' in omega arith) b h', pruned_off n r off, at_away p (without n) r off_p) refl)
        | inr b ↦ (
            let e' : on p r ≡ true = rw (a, b) at e in
            let h' : has n (kids p r) ≡ true = rw (a, b) at h in
            let many = on_tally n r (on_kids p n r (has_on n (kids p r) h')) in
            let off : on n k ≡ false = tally_off n k (omega (arith, many, on_o)) in
            rw (other, a, pruned_off n k off, at_away p (without n) k b, pruned_without n p r (omega (arith, on_o)) (let z = rw a at o' in omega arith) e' h') refl)
      ]
    ]

kids_height : (p : ℕ) (t : Forest Kind) → height (kids p t) ≤ height t
kids_height p none = omega arith
kids_height p (node m x k r) = elim (cases_Bool (m == p)) [
  | inl e ↦ rw e (omega arith)
  | inr e ↦ elim (cases_Bool (on p k)) [
    | inl f ↦ (let i = kids_height p k in rw (e, f) (omega (arith, i)))
    | inr f ↦ (let i = kids_height p r in rw (e, f) (omega (arith, i)))
  ]
]

kids_low : (p : ℕ) (t : Forest Kind) → on p t ≡ true → suc (height (kids p t)) ≤ height t
kids_low p none e = absurd (false≢true e)
kids_low p (node m x k r) e = elim (cases_Bool (m == p)) [
  | inl a ↦ rw a (omega arith)
  | inr a ↦ elim (cases_Bool (on p k)) [
    | inl f ↦ (let i = kids_low p k f in rw (a, f) (omega (arith, i)))
    | inr f ↦ (let i = kids_low p r (rw (a, f) at e) in rw (a, f) (omega (arith, i)))
  ]
]

-- a row that is cut is none, and the others stay
cut_row : (a b : Bool) (w o : Option Row) → w ≡ (if a then None else (if b then None else o)) → a ≡ false → b ≡ false → w ≡ o
cut_row a b w o e f g = e ∙ (rw (f, g) refl)

cut_none : (a b : Bool) (w o : Option Row) → w ≡ (if a then None else (if b then None else o)) → is_row w ≡ true → (a ≡ false) × (b ≡ false) × (is_row o ≡ true)
cut_none true b w o e h = absurd (false≢true (ap is_row (sym e) ∙ h))
cut_none false true w o e h = absurd (false≢true (ap is_row (sym e) ∙ h))
cut_none false false w o e h = (refl, refl, ap is_row (sym e) ∙ h)

pub remove_leads : (n : ℕ) (rows mid rows' : ℕ → Option Row) → IsKept rows → below_root n (tree_in rows) ≡ true → ((q : ℕ) → mid q ≡ edited (parent n (tree_in rows)) (with_children (taken n)) q (rows q)) → ((q : ℕ) → rows' q ≡ cut 32 (children_of (mid n)) (gone n mid) q) → Leads (OpRemove n) rows rows'
remove_leads n rows mid rows' k r s c =
    let t = tree_in rows in
    let p = parent n t in
    let o = k.tree.once in
    let b = both (on n t) (not (n == 0)) r in
    let sits = has_parent n t o b.0 (off_top n t k.tree (not_zero n b.1)) in
    let below = kids n t in
    let here = only n (kids p t) in
    let part : here ≡ node n (label_in Root n t) below none = only_known (λ i. kids i t) (λ i. label_in Root i t) n (kids p t) (knows_kids (λ i. kids i t) p t (knows t o)) (tells_kids (λ i. label_in Root i t) p t (tells Root t o)) sits.0 in
    let u = at p (without n) t in
    let sum : (j : ℕ) → tally j u + tally j (node n (label_in Root n t) below none) ≡ tally j t = λ j. (let z = tally_parted j p n t (o p) sits.1 in let w = ap (tally j) part in omega (arith, z, w)) in
    let u_off : (j : ℕ) → on j u ≡ true → on j (node n (label_in Root n t) below none) ≡ false = λ j e. tally_off j (node n (label_in Root n t) below none) (let z = on_tally j u e in let w = sum j in let q = o j in omega (arith, z, w, q)) in
    let own = off_own n t (o n) b.0 in
    let apart : (n == p) ≡ false = apart_from n p (kids p t) (has_on n (kids p t) sits.0) (off_own p t (o p) sits.1) in
    let mid_n : mid n ≡ Some (row_at 0 n t) = s n ∙ (edited_other p (with_children (taken n)) n (rows n) apart ∙ found rows 0 n t k.held (o n) b.0) in
    let p_off : on p below ≡ false = elim (cases_Bool (on p below)) [
      | inl e ↦ (
          let z : on p (node n (label_in Root n t) below none) ≡ true = or_right (n == p) (on p below || false) (or_left (on p below) false e) in
          let w : on p here ≡ true = ap (on p) part ∙ z in
          let many = on_tally p here w in
          let parts = tally_parted p p n t (o p) sits.1 in
          let still : on p u ≡ true = on_at p (without n) t ∙ sits.1 in
          let more = on_tally p u still in
          let q = o p in absurd (omega (arith, many, parts, more, q)))
      | inr e ↦ e
    ] in
    let gone_holds : HaveRows (gone n mid) n below = holds_same rows (gone n mid) n below (λ q e. (
    let x : (q == n) ≡ false = apart_from q n below e own in
    let y : (q == p) ≡ false = apart_from q p below e p_off in
    let z : gone n mid q ≡ mid q = rw x refl in
    z ∙ (s q ∙ edited_other p (with_children (taken n)) q (rows q) y))) (holds_kids rows 0 n t k.held) in
    let low : height below ≤ 32 = (let z = kids_low n t b.0 in let w = k.tree.low in omega (arith, z, w)) in
    let once_below : (j : ℕ) → tally j below ≤ 1 = λ j. (let z = tally_kids n j t in let w = o j in omega (arith, z, w)) in
    let cuts : (q : ℕ) → rows' q ≡ (if on q below then None else gone n mid q) = λ q. c q ∙ (ap (λ w. cut 32 (children_of w) (gone n mid) q) mid_n ∙ cut_is 32 n (gone n mid) below gone_holds once_below low q) in
    let h_mid = holds_edited p (taken n) (without n) rows mid k sits.1 (λ q e. s q) (siblings_without n (kids p t)) (λ z. holds_without mid p n (kids p t) z) in
    let h : HaveRows rows' 0 u = holds_same mid rows' 0 u (λ q e. (
    let z = or_false (n == q) (on q below) false (u_off q e) in
    cut_row (on q below) (q == n) (rows' q) (mid q) (cuts q) z.1 (flipped n q z.0))) h_mid in
    let gone_is_u : pruned (λ m. not (m == n)) t ≡ u = pruned_without n p t (o n) (o p) sits.1 sits.0 in
    let done : do_op (OpRemove n) t ≡ Done u = rw r (ap Done gone_is_u) in
    leads (OpRemove n) rows rows' u k tt done h
    (λ m e. (
    let z = cut_none (on m below) (m == n) (rows' m) (mid m) (cuts m) e in
    let on_t = k.just m (row_still p (with_children (taken n)) m (mid m) (rows m) (s m) z.2) in
    let many = on_tally m t on_t in
    let off : on m (node n (label_in Root n t) below none) ≡ false = rw (flipped m n z.1, z.0) refl in
    let none_here = off_tally m (node n (label_in Root n t) below none) off in
    let w = sum m in
    tally_on m u (omega (arith, many, none_here, w))))

-- ---- reading

-- a row is that of a node of the tree
pub kept_some : (rows : ℕ → Option Row) (t : Forest Kind) (n : ℕ) (r : Row) → tree_in rows ≡ t → IsKept rows → rows n ≡ Some r → (on n t ≡ true) × (r.label ≡ label_in Root n t) × (r.children ≡ siblings (kids n t)) × ((0 == n) ≡ false → r.parent ≡ parent n t)
kept_some rows t n r e k h =
    let there = k.just n (ap is_row h) in
    let f : Some (row_at 0 n (tree_in rows)) ≡ Some r = sym (found rows 0 n (tree_in rows) k.held (k.tree.once n) there) ∙ h in
    let w : row_at 0 n (tree_in rows) ≡ r = cc in (
      ap (on n) (sym e) ∙ there,
      ap (λ z. z.label) (sym w) ∙ ap (label_in Root n) e,
      ap (λ z. z.children) (sym w) ∙ ap (λ z. siblings (kids n z)) e,
      λ z. ap (λ y. y.parent) (sym w) ∙ ((rw (off_top n (tree_in rows) k.tree z) refl) ∙ ap (parent n) e),
    )

-- where there is no row there is no node
pub kept_none : (rows : ℕ → Option Row) (t : Forest Kind) (n : ℕ) → tree_in rows ≡ t → IsKept rows → rows n ≡ None → on n t ≡ false
kept_none rows t n e k h = elim (cases_Bool (on n (tree_in rows))) [
  | inl f ↦ (let z : Some (row_at 0 n (tree_in rows)) ≡ None = sym (found rows 0 n (tree_in rows) k.held (k.tree.once n) f) ∙ h in absurd (cc))
  | inr f ↦ ap (on n) (sym e) ∙ f
]

-- what an operation needs, and what it leads to, on the tree that a table stands for
pub leads_for : (op : Op) (rows rows' : ℕ → Option Row) (t : Forest Kind) → tree_in rows ≡ t → Leads op rows rows' → do_op op t ≡ Done (tree_in rows')
leads_for op rows rows' t e l = ap (do_op op) (sym e) ∙ l.done

pub done_for : (op : Op) (rows : ℕ → Option Row) (t : Forest Kind) → tree_in rows ≡ t → IsDone (do_op op t) → IsDone (do_op op (tree_in rows))
done_for op rows t e d = (let P : Forest Kind → Type 0 = λ z. IsDone (do_op op z) in subst P (sym e) d)

-- ---- the first tree

pub new_kept : (rows : ℕ → Option Row) → ((q : ℕ) → rows q ≡ written 0 (record { label = Root; parent = 0; children = [] }) q None) → IsKept rows × (tree_in rows ≡ node 0 Root none none)
unfolding tree_in
new_kept rows s =
    let e : tree_in rows ≡ node 0 Root none none = rw (s 0) refl in
    let P : Forest Kind → Type 0 = IsTree in
    let Q : Forest Kind → Type 0 = λ t. HaveRows rows 0 t in
    let first : IsTree (node 0 Root none none) = record {
      rooted = record { below = none; is = refl };
      once = λ n. elim (cases_Bool (0 == n)) [ inl a ↦ rw a (omega arith) | inr a ↦ rw a (omega arith) ];
      low = omega arith;
      nodes = tt;
    } in (
      record {
        tree = subst P (sym e) first;
        held = subst Q (sym e) (s 0, tt, tt);
        just = λ n h. ap (on n) e ∙ elim (cases_Bool (n == 0)) [
          | inl a ↦ (let b : (0 == n) ≡ true = eq-eqb 0 n (sym (eqb-true n 0 a)) in rw b refl)
          | inr a ↦ (let w : is_row (written 0 (record { label = Root; parent = 0; children = [] }) n None) ≡ true = ap is_row (sym (s n)) ∙ h in absurd (false≢true (rw a at w)))
        ];
      },
      e,
    )
