-- What the reading calls answer, from the row of a node.
use Rattle.std.proofs.Common.{◌≡◌, ℕ, suc, ◌<◌, ◌≤◌, ◌==◌, Bool, true, false, ◌&&◌, not, refl, sym, ap, subst, ◌∙◌, arith, if◌then◌else◌, List, [], ◌∷◌, length, leb, ltb, Option, Some, None, eqb-true, eq-eqb, inl, inr}
use Rattle.std.proofs.lemmas.Bool.{cases_Bool, leb-true, ltb-true}
use mathlib.Core.Path.{fun_ext}
use Rattle.page_model.specs.Forest.{Forest, none, node, count, has, moved, on, kids, parent, label_in, at}
use Rattle.page_model.specs.Labels.{Root, Text, Element, Kind, holds}
use Rattle.page_model.specs.Edits.{listed, put_at, siblings, taken}
use Rattle.page_model.specs.Pages.{place_in}
use Rattle.page_model.specs.Replay.{OpInsert, OpMove, OpAttr, OpRemove, NoSuchNode, NoSuchPlace, below_root, Done, do_attr, do_op, others, put_in}
use Rattle.page_model.specs.Trees.{IsTree, Brings}
use Rattle.page_model.proofs.Shared.{both, done_if, has_listed, has_parent, if_done, kids_off, not_zero, or_false}
use Rattle.page_tree.specs.Queries.{IsDone, kind_of, kind_at, child_count, place_at}
use Rattle.page_tree.specs.Rows.{Row, IsKept, attributes_of, edited, moved_row, parent_of, parted, removed, removed_row, tree_in, with_attributes, with_children}
use Rattle.page_tree.specs.Rows as rows_of_table
use Rattle.page_tree.specs.Subs.{after_rows, insertion, rows_of}
use Rattle.page_tree.proofs.Tables.{Leads, row_at, found}
use Rattle.page_tree.proofs.Edits.{attr_leads, done_for, insert_leads, is_done, kept_some, leads_for, move_leads, off_top, remove_leads}

count_siblings : (t : Forest Kind) → length (siblings t) ≡ count t
count_siblings none = refl
count_siblings (node n x k r) = ap suc (count_siblings r)

pub read_count : (n len : ℕ) (ns : List ℕ) (t : Forest Kind) → on n t ≡ true → ns ≡ siblings (kids n t) → len ≡ length ns → Some len ≡ child_count n t
read_count n len ns t e c l = rw e (ap Some (l ∙ (ap length c ∙ count_siblings (kids n t))))

pub read_kind : (n : ℕ) (x : Kind) (t : Forest Kind) → on n t ≡ true → x ≡ label_in Root n t → Some (kind_of x) ≡ kind_at n t
read_kind n x t e l = rw e (ap (λ z. Some (kind_of z)) l)

pub label_off : (n : ℕ) (t : Forest Kind) → on n t ≡ false → label_in Root n t ≡ Root
label_off n none e = refl
label_off n (node m x k r) e =
    let b = or_false (m == n) (on n k) (on n r) e in
    rw (b.0, b.1) (label_off n r b.2)

pub children_off : (n : ℕ) (t : Forest Kind) → on n t ≡ false → siblings (kids n t) ≡ []
children_off n t e = ap siblings (kids_off n t e)

pub read_place : (n p i : ℕ) (t : Forest Kind) → on n t ≡ true → (n == 0) ≡ false → p ≡ parent n t → i ≡ place_in n (siblings (kids p t)) → Some (p, i) ≡ place_at n t
read_place n p i t e z q s = rw (e, z, ← q, ← s) refl

nowhere : (a : Bool) (o : Option (ℕ × ℕ)) → None ≡ (if a && not true then o else None)
nowhere true o = refl
nowhere false o = refl

pub place_root : (n : ℕ) (t : Forest Kind) → n ≡ 0 → None ≡ place_at n t
place_root n t e = (let b : (n == 0) ≡ true = eq-eqb n 0 e in rw b (nowhere (on n t) (Some (parent n t, place_in n (siblings (kids (parent n t) t))))))

pub place_off : (n : ℕ) (t : Forest Kind) → on n t ≡ false → None ≡ place_at n t
place_off n t e = rw e refl

pub read_parent : (n p : ℕ) (t : Forest Kind) → on n t ≡ true → (n == 0) ≡ false → p ≡ parent n t → Some p ≡ (if below_root n t then Some (parent n t) else None)
read_parent n p t e z q = rw (e, z, ← q) refl

pub parent_off : (n : ℕ) (t : Forest Kind) → on n t ≡ false → None ≡ (if below_root n t then Some (parent n t) else None)
parent_off n t e = rw e refl

-- the parent of a node is a node
pub parent_on : (n : ℕ) (t : Forest Kind) → IsTree t → on n t ≡ true → (0 == n) ≡ false → (has n (kids (parent n t) t) ≡ true) × (on (parent n t) t ≡ true)
parent_on n t w e z = has_parent n t w.once e (off_top n t w z)

pub zero_first : (n : ℕ) → (n ≡ 0 → ⊥) → (0 == n) ≡ false
zero_first n h = elim (cases_Bool (0 == n)) [ inl e ↦ absurd (h (sym (eqb-true 0 n e))) | inr e ↦ e ]

pub zero_last : (n : ℕ) → (n ≡ 0 → ⊥) → (n == 0) ≡ false
zero_last n h = elim (cases_Bool (n == 0)) [ inl e ↦ absurd (h (eqb-true n 0 e)) | inr e ↦ e ]

-- ---- what the edits need

pub tree_seen : (rows : ℕ → Option Row) (t : Forest Kind) → tree_in rows ≡ t → IsKept rows → IsTree t
tree_seen rows t e k = (let P : Forest Kind → Type 0 = IsTree in subst P e k.tree)

pub move_room : (n i : ℕ) (rows : ℕ → Option Row) (t : Forest Kind) → tree_in rows ≡ t → IsKept rows → IsDone (do_op (OpMove n i) t) → (r s : Row) → rows n ≡ Some r → rows r.parent ≡ Some s → (listed n s.children ≡ true) × (i < length s.children)
move_room n i rows t e k d r s h g =
    let u = is_done (do_op (OpMove n i) t) d in
    let d1 = if_done (below_root n t) _ u.0 (NoSuchNode n) u.1 in
    let d2 = done_if (ltb i (count (kids (parent n t) t))) (at (parent n t) (moved n i) t) u.0 (NoSuchPlace i) d1.1 in
    let b = both (on n t) (not (n == 0)) d1.0 in
    let z = not_zero n b.1 in
    let a = kept_some rows t n r e k h in
    let q : r.parent ≡ parent n t = a.3 z in
    let w = kept_some rows t r.parent s e k g in
    let at_p : s.children ≡ siblings (kids (parent n t) t) = w.2 ∙ ap (λ p. siblings (kids p t)) q in
    let sits = parent_on n t (tree_seen rows t e k) b.0 z in (
      ap (listed n) at_p ∙ (sym (has_listed n (kids (parent n t) t)) ∙ sits.0),
      (let l = ap (length) at_p in let m = count_siblings (kids (parent n t) t) in let f = ltb-true i (count (kids (parent n t) t)) d2.0 in omega (arith, l, m, f)),
    )

pub attr_fits : (n i : ℕ) (name value : List ℕ) (x : Kind) (now : Forest Kind) → IsDone (do_attr n i name value x now) → i ≤ length (others name (attributes_of x))
attr_fits n i name value Root now d = absurd d
attr_fits n i name value (Text t) now d = absurd d
attr_fits n i name value (Element e xs) now d = elim (cases_Bool (leb i (length (others name xs)))) [
  | inl a ↦ leb-true i (length (others name xs)) a
  | inr a ↦ absurd (rw a at d)
]

pub attr_room : (n i : ℕ) (name value : List ℕ) (rows : ℕ → Option Row) (t : Forest Kind) → tree_in rows ≡ t → IsKept rows → IsDone (do_op (OpAttr n i name value) t) → (r : Row) → rows n ≡ Some r → i ≤ length (others name (attributes_of r.label))
attr_room n i name value rows t e k d r h =
    let f = attr_fits n i name value (label_in Root n t) t d in
    let l = ap (λ x. length (others name (attributes_of x))) (kept_some rows t n r e k h).1 in
    omega (arith, f, l)

-- the tree of one node
pub one_node : (n : ℕ) (s : Forest Kind) → siblings s ≡ n ∷ [] → (x : Kind) × (k : Forest Kind) × (s ≡ node n x k none)
one_node n none e = absurd (cc)
one_node n (node m x k none) e = (x, k, (let q : m ≡ n = cc in ap (λ j. node j x k none) q))
one_node n (node m x k (node j y l r)) e = absurd (cc)

pub insert_fits : (p i n : ℕ) (x : Kind) (k t : Forest Kind) → IsDone (do_op (OpInsert p i n x k) t) → i ≤ count (kids p t)
insert_fits p i n x k t d =
    let u = is_done (do_op (OpInsert p i n x k) t) d in
    let d1 = if_done (on p t && holds (label_in Root p t)) _ u.0 (NoSuchNode p) u.1 in
    let d2 = if_done (leb i (count (kids p t))) _ u.0 (NoSuchPlace i) d1.1 in
    leb-true i (count (kids p t)) d2.0

pub insert_room : (p i n : ℕ) (s : Forest Kind) (rows : ℕ → Option Row) (t : Forest Kind) → siblings s ≡ n ∷ [] → tree_in rows ≡ t → IsKept rows → IsDone (do_op (insertion p i s) t) → (r : Row) → rows p ≡ Some r → i ≤ length r.children
insert_room p i n s rows t one e k d r h =
    let w = one_node n s one in
    let P : Forest Kind → Type 0 = λ z. IsDone (do_op (insertion p i z) t) in
    let f = insert_fits p i n w.0 w.1 t (subst P w.2 d) in
    let l = ap (length) (kept_some rows t p r e k h).2 in
    let m = count_siblings (kids p t) in
    omega (arith, f, l, m)

pub sub_leads : (p i n : ℕ) (s : Forest Kind) (rows rows' : ℕ → Option Row) → siblings s ≡ n ∷ [] → IsKept rows → Brings (insertion p i s) → IsDone (do_op (insertion p i s) (tree_in rows)) → ((q : ℕ) → rows' q ≡ after_rows q (rows_of p s) (edited p (with_children (put_at i n)) q (rows q))) → Leads (insertion p i s) rows rows'
sub_leads p i n s rows rows' one k b d h =
    let w = one_node n s one in
    let A : Forest Kind → Type 0 = λ z. Brings (insertion p i z) in
    let B : Forest Kind → Type 0 = λ z. IsDone (do_op (insertion p i z) (tree_in rows)) in
    let C : Forest Kind → Type 0 = λ z. (q : ℕ) → rows' q ≡ after_rows q (rows_of p z) (edited p (with_children (put_at i n)) q (rows q)) in
    let D : Forest Kind → Type 0 = λ z. Leads (insertion p i z) rows rows' in
    subst D (sym w.2) (insert_leads p i n w.0 w.1 rows rows' k (subst A w.2 b) (subst B w.2 d) (subst C w.2 h))

-- a table with the same rows
pub kept_same : (rows rows' : ℕ → Option Row) → ((q : ℕ) → rows' q ≡ rows q) → IsKept rows → IsKept rows'
kept_same rows rows' s k = (let P : (ℕ → Option Row) → Type 0 = IsKept in subst P (sym (fun_ext s)) k)

pub tree_same : (rows rows' : ℕ → Option Row) → ((q : ℕ) → rows' q ≡ rows q) → tree_in rows' ≡ tree_in rows
tree_same rows rows' s = ap tree_in (fun_ext s)

-- ---- edits that find the parent by the row

pub row_there : (rows : ℕ → Option Row) (t : Forest Kind) (n : ℕ) → tree_in rows ≡ t → IsKept rows → on n t ≡ true → (r : Row) × (rows n ≡ Some r)
row_there rows t n e k h = (
  row_at 0 n (tree_in rows),
  found rows 0 n (tree_in rows) k.held (k.tree.once n) (ap (on n) e ∙ h),
)

pub moved_leads : (n i : ℕ) (rows rows' : ℕ → Option Row) → IsKept rows → IsDone (do_op (OpMove n i) (tree_in rows)) → ((q : ℕ) → rows' q ≡ rows_of_table.moved n i rows q) → Leads (OpMove n i) rows rows'
moved_leads n i rows rows' k d s =
    let t = tree_in rows in
    let u = is_done (do_op (OpMove n i) t) d in
    let d1 = if_done (below_root n t) _ u.0 (NoSuchNode n) u.1 in
    let b = both (on n t) (not (n == 0)) d1.0 in
    let w = row_there rows t n refl k b.0 in
    let q : w.0.parent ≡ parent n t = (kept_some rows t n w.0 refl k w.1).3 (not_zero n b.1) in
    let g : Row → Row = with_children (λ ns. put_at i n (taken n ns)) in
    move_leads n i rows rows' k d (λ m. s m ∙ (ap (λ o. moved_row o n i rows m) w.1 ∙ ap (λ p. edited p g m (rows m)) q))

pub removed_leads : (n : ℕ) (rows rows' : ℕ → Option Row) → IsKept rows → below_root n (tree_in rows) ≡ true → ((q : ℕ) → rows' q ≡ removed n rows q) → Leads (OpRemove n) rows rows'
removed_leads n rows rows' k r s =
    let t = tree_in rows in
    let b = both (on n t) (not (n == 0)) r in
    let w = row_there rows t n refl k b.0 in
    let q : w.0.parent ≡ parent n t = (kept_some rows t n w.0 refl k w.1).3 (not_zero n b.1) in
    let p : parent_of (rows n) ≡ parent n t = ap parent_of w.1 ∙ q in
    remove_leads n rows (parted n rows) rows' k r (λ m. ap (λ z. edited z (with_children (taken n)) m (rows m)) p) (λ m. s m ∙ ap (λ o. removed_row o n rows m) w.1)

-- an attribute by copies of its name and its value
pub attr_by_copies : (id place : ℕ) (m name v value : List ℕ) (rows rows' : ℕ → Option Row) (t : Forest Kind) → m ≡ name → v ≡ value → tree_in rows ≡ t → IsKept rows → IsDone (do_op (OpAttr id place name value) t) → ((q : ℕ) → rows' q ≡ edited id (with_attributes (λ xs. put_in place (m, v) (others m xs))) q (rows q)) → IsKept rows' × (do_op (OpAttr id place name value) t ≡ Done (tree_in rows'))
attr_by_copies id place m name v value rows rows' t e f s k d h =
    let A : List ℕ → Type 0 = λ a. (q : ℕ) → rows' q ≡ edited id (with_attributes (λ xs. put_in place (a, v) (others a xs))) q (rows q) in
    let B : List ℕ → Type 0 = λ b. (q : ℕ) → rows' q ≡ edited id (with_attributes (λ xs. put_in place (name, b) (others name xs))) q (rows q) in
    let op = OpAttr id place name value in
    let l = attr_leads id place name value rows rows' k (done_for op rows t s d) (subst B f (subst A e h)) in
    (l.kept, leads_for op rows rows' t s l)

pub attr_room_by_copy : (id place : ℕ) (m name value : List ℕ) (rows : ℕ → Option Row) (t : Forest Kind) → m ≡ name → tree_in rows ≡ t → IsKept rows → IsDone (do_op (OpAttr id place name value) t) → (r : Row) → rows id ≡ Some r → place ≤ length (others m (attributes_of r.label))
attr_room_by_copy id place m name value rows t e s k d r h =
    let a = attr_room id place name value rows t s k d r h in
    let b = ap (λ z. length (others z (attributes_of r.label))) e in
    omega (arith, a, b)
