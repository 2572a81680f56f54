-- The edits that lead to a page can be written.
use Rattle.std.proofs.Common.{◌≡◌, ℕ, suc, ◌<◌, ◌≤◌, ◌==◌, true, false, refl, sym, ap, subst, ◌∙◌, arith, eqb-true, inl, inr, ◌⊎◌, List, [], ◌∷◌, ◌++◌, map, Option, Some, None}
use Rattle.std.specs.List.{flat_map}
use Rattle.std.specs.Str.{bytes_eq}
use Rattle.std.proofs.lemmas.Bool.{cases_Bool, false≢true}
use Rattle.page_model.specs.Forest.{Forest, none, node, count, on, tally, keys, kids, label_in, height, numbered, pruned, tops}
use Rattle.page_model.specs.Labels.{Root, Text, Element, Kind, Look, seen, shown, present, holds, Distinct, DistinctNames, Sound, GoodNames, GoodLabel, WellNamed}
use Rattle.page_model.specs.Edits.{listed, placed, put_at, taken, siblings, child_edits, attribute_edits, look_edits, ascending, edits}
use Rattle.page_model.specs.Pages.{NumberedPage, bare, number_of, by_number, page_shape, tree_of, carried, renumbered, edits_between, IsPage, IsShape}
use Rattle.page_model.specs.Replay.{Op, OpRemove}
use Rattle.page_model.specs.Trees.{IsNode, AreNodes, IsTree}
use Rattle.page_model.specs.Texts.{AreWritable}
use Rattle.page_model.proofs.Told.{not_present}
use Rattle.page_model.proofs.Shown.{tally_shown, height_shown, sound_num}
use Rattle.page_model.proofs.Keys.{height_num, once_numbered}
use Rattle.page_model.proofs.Looks.{by_number_with, by_number_is}
use Rattle.page_model.proofs.Updates.{page_after, root_after}

-- ---- what is shown

no_children : {A : Type 0} (k : Forest A) → (0 < count k → false ≡ true) → k ≡ none
no_children none h = refl
no_children (node n x k r) h = absurd (false≢true (h (omega arith)))

distinct_present : (xs : List (List ℕ × Option (List ℕ))) → Distinct xs → Distinct (present xs)
distinct_present [] d = tt
distinct_present ((name, None) ∷ xs) d = distinct_present xs d.1
distinct_present ((name, Some v) ∷ xs) d = (not_present name xs d.0, distinct_present xs d.1)

good_present : (xs : List (List ℕ × Option (List ℕ))) → GoodNames xs → GoodNames (present xs)
good_present [] g = tt
good_present ((name, None) ∷ xs) g = good_present xs g.1
good_present ((name, Some v) ∷ xs) g = (g.0, good_present xs g.1)

node_shown : (x : Look) (k : Forest Look) → (0 < count k → holds x ≡ true) → DistinctNames x → GoodLabel x → IsNode (seen x) (shown k)
node_shown Root k h d g = g
node_shown (Text t) k h d g = ap shown (no_children k h)
node_shown (Element name xs) k h d g = distinct_present xs d

nodes_shown : (t : Forest Look) → Sound t → WellNamed t → AreNodes (shown t)
nodes_shown none s g = tt
nodes_shown (node m x k r) s g = (node_shown x k s.0 s.1 g.0, nodes_shown k s.2 g.1, nodes_shown r s.3 g.2)

good_seen : (x : Look) → GoodLabel x → GoodLabel (seen x)
good_seen Root g = g
good_seen (Text t) g = g
good_seen (Element name xs) g = (g.0, good_present xs g.1)

named_shown : (t : Forest Look) → WellNamed t → WellNamed (shown t)
named_shown none g = tt
named_shown (node m x k r) g = (good_seen x g.0, named_shown k g.1, named_shown r g.2)

named_num : (num : ℕ → ℕ) (t : Forest Look) → WellNamed t → WellNamed (numbered num t)
named_num num none g = tt
named_num num (node m x k r) g = (g.0, named_num num k g.1, named_num num r g.2)

-- ---- what can be written

-- siblings that an insertion can bring, on so many levels
abbrev Bringable : ℕ → Forest Kind → Type 0
Bringable h t = (height t ≤ h) × AreNodes t × WellNamed t

bringable_kids : (h p : ℕ) (t : Forest Kind) → Bringable h t → Bringable h (kids p t)
bringable_kids h p none b = b
bringable_kids h p (node m x k r) b = elim (cases_Bool (m == p)) [
  | inl e ↦ rw e ((let z = b.0 in omega arith), b.1.1, b.2.1)
  | inr e ↦ elim (cases_Bool (on p k)) [
    | inl f ↦ rw (e, f) (bringable_kids h p k ((let z = b.0 in omega arith), b.1.1, b.2.1))
    | inr f ↦ rw (e, f) (bringable_kids h p r ((let z = b.0 in omega arith), b.1.2, b.2.2))
  ]
]

children_written : (p i : ℕ) (now : List ℕ) (new : Forest Kind) → Bringable 32 new → AreWritable (child_edits p i now new)
children_written p i now none b = tt
children_written p i now (node n x k r) b =
    let rest : Bringable 32 r = ((let z = b.0 in omega arith), b.1.2, b.2.2) in
    elim (cases_Bool (listed n now)) [
      | inl e ↦ elim (cases_Bool (placed n i now)) [
        | inl f ↦ rw (e, f) (children_written p (suc i) now r rest)
        | inr f ↦ rw (e, f) (tt, children_written p (suc i) (put_at i n (taken n now)) r rest)
      ]
      | inr e ↦ rw e (((let z = b.0 in omega arith), (b.1.0, b.1.1, tt), (b.2.0, b.2.1, tt)), children_written p (suc i) (put_at i n now) r rest)
    ]

attributes_written : (n : ℕ) (old new : List (List ℕ × Option (List ℕ))) (i : ℕ) → GoodNames new → AreWritable (attribute_edits n old new i)
attributes_written n [] new i g = tt
attributes_written n (a ∷ old) [] i g = tt
attributes_written n ((m, None) ∷ old) ((name, None) ∷ new) i g = attributes_written n old new i g.1
attributes_written n ((m, Some u) ∷ old) ((name, None) ∷ new) i g = (g.0, attributes_written n old new i g.1)
attributes_written n ((m, None) ∷ old) ((name, Some v) ∷ new) i g = (g.0, attributes_written n old new (suc i) g.1)
attributes_written n ((m, Some u) ∷ old) ((name, Some v) ∷ new) i g = elim (cases_Bool (bytes_eq u v)) [
  | inl e ↦ rw e (attributes_written n old new (suc i) g.1)
  | inr e ↦ rw e (g.0, attributes_written n old new (suc i) g.1)
]

-- a label is the root's, or a good one
abbrev Sayable : Look → Type 0
Sayable x = (x ≡ Root) ⊎ GoodLabel x

told_written : (n : ℕ) (x y : Look) → Sayable y → AreWritable (look_edits n x y)
told_written n (Text s) (Text t) g = elim (cases_Bool (bytes_eq s t)) [ inl e ↦ rw e tt | inr e ↦ rw e (tt, tt) ]
told_written n (Element name old) (Element name' new) (inl e) = absurd (cc)
told_written n (Element name old) (Element name' new) (inr g) = attributes_written n old new 0 g.1
told_written n Root y g = tt
told_written n (Text s) Root g = tt
told_written n (Text s) (Element name new) g = tt
told_written n (Element name old) Root g = tt
told_written n (Element name old) (Text t) g = tt

label_sayable : (n : ℕ) (t : Forest Look) → WellNamed t → Sayable (label_in Root n t)
label_sayable n none g = inl refl
label_sayable n (node m x k r) g = elim (cases_Bool (m == n)) [
  | inl e ↦ rw e (inr g.0)
  | inr e ↦ elim (cases_Bool (on n k)) [ inl f ↦ rw (e, f) (label_sayable n k g.1) | inr f ↦ rw (e, f) (label_sayable n r g.2) ]
]

written_both : (xs ys : List Op) → AreWritable xs → AreWritable ys → AreWritable (xs ++ ys)
written_both [] ys a b = b
written_both (x ∷ xs) ys a b = (a.0, written_both xs ys a.1 b)

written_flat : (f : ℕ → List Op) (ns : List ℕ) → ((n : ℕ) → AreWritable (f n)) → AreWritable (flat_map f ns)
written_flat f [] h = tt
written_flat f (n ∷ ns) h = written_both (f n) (flat_map f ns) (h n) (written_flat f ns h)

written_removals : (ns : List ℕ) → AreWritable (map OpRemove ns)
written_removals [] = tt
written_removals (n ∷ ns) = (tt, written_removals ns)

-- the edits to a tree whose nodes below the root can be brought
edits_written : (old : Forest Look) (b : Forest Look) → Bringable 32 (shown b) → WellNamed b → AreWritable (edits old (node 0 Root b none))
edits_written old b w g =
    let new = node 0 Root b none in
    let left = pruned (λ n. on n (shown new)) (shown old) in
    let kept = ascending (keys left) in
    let gone = map OpRemove (ascending (tops (λ n. on n (shown new)) (shown old))) in
    let child : ℕ → List Op = λ n. child_edits n 0 (siblings (kids n left)) (kids n (shown new)) in
    let say : ℕ → List Op = λ n. look_edits n (label_in Root n old) (label_in Root n new) in
    let below : (n : ℕ) → Bringable 32 (kids n (shown new)) = λ n. elim (cases_Bool (0 == n)) [
      | inl e ↦ rw e w
      | inr e ↦ elim (cases_Bool (on n (shown b))) [ inl f ↦ rw (e, f) (bringable_kids 32 n (shown b) w) | inr f ↦ rw (e, f) ((omega arith), tt, tt) ]
    ] in
    let lab : (n : ℕ) → Sayable (label_in Root n new) = λ n. elim (cases_Bool (0 == n)) [
      | inl e ↦ rw e (inl refl)
      | inr e ↦ elim (cases_Bool (on n b)) [ inl f ↦ rw (e, f) (label_sayable n b g) | inr f ↦ rw (e, f) (inl refl) ]
    ] in
    written_both (gone ++ flat_map child kept) (flat_map say kept)
    (written_both gone (flat_map child kept) (written_removals (ascending (tops (λ n. on n (shown new)) (shown old)))) (written_flat child kept (λ n. children_written n 0 (siblings (kids n left)) (kids n (shown new)) (below n))))
    (written_flat say kept (λ n. told_written n (label_in Root n old) (label_in Root n new) (lab n)))

-- ---- pages

-- the nodes below the root of the page that has this shape
abbrev below_of : NumberedPage → (shape : Forest Look) → IsShape shape → Forest Look
below_of old shape s = numbered (carried old shape) s.rooted.below

root_is : (old : NumberedPage) (shape : Forest Look) (p : IsPage old) (s : IsShape shape) → by_number (renumbered old shape).nodes ≡ node 0 Root (below_of old shape s) none
root_is old shape p s =
    let num = carried old shape in
    by_number_with num shape ∙ (ap (numbered num) s.rooted.is ∙ ap (λ z. node z Root (numbered num s.rooted.below) none) (root_after old shape p))

-- below the root of a shape, at most 32 levels
low_below : (shape : Forest Look) (s : IsShape shape) → height s.rooted.below ≤ 32
low_below shape s = (let e = ap height s.rooted.is in let l = s.low in omega arith)

sound_below : (b shape : Forest Look) → shape ≡ node 0 Root b none → Sound shape → Sound b
sound_below b shape e s = (subst {A = Forest Look} Sound e s).2

brought_below : (old : NumberedPage) (shape : Forest Look) (s : IsShape shape) → Bringable 32 (shown (below_of old shape s))
brought_below old shape s =
    let num = carried old shape in
    let b = s.rooted.below in
    let sound = sound_num num b (sound_below b shape s.rooted.is s.sound) in
    let named = named_num num b s.names in (
      (let l = low_below shape s in let h = height_num num b in let w = height_shown (numbered num b) in omega (arith, l, h, w)),
      nodes_shown (numbered num b) sound named,
      named_shown (numbered num b) named,
    )

-- the edits to a page can be written
pub edits_writable : (old : NumberedPage) (shape : Forest Look) → IsPage old → IsShape shape → AreWritable (edits_between old (renumbered old shape))
edits_writable old shape p s =
    let e = root_is old shape p s in
    let P : Forest Look → Type 0 = λ t. AreWritable (edits (by_number old.nodes) t) in
    subst P (sym e) (edits_written (by_number old.nodes) (below_of old shape s) (brought_below old shape s) (named_num (carried old shape) s.rooted.below s.names))

-- the tree of a page that has a shape is one that operations are done on
pub tree_made : (old : NumberedPage) (shape : Forest Look) → IsPage old → IsShape shape → IsTree (tree_of (renumbered old shape))
tree_made old shape p s =
    let new = renumbered old shape in
    let w = page_after old shape p s in
    let brought = brought_below old shape s in
    let e : tree_of new ≡ node 0 Root (shown (below_of old shape s)) none = ap shown (root_is old shape p s) in
    record {
      rooted = record { below = shown (below_of old shape s); is = e };
      once = λ n. (
          let f = by_number_is new w.once in
          let o = once_numbered (number_of new) (page_shape new) w.once w.distinct n in
          let a = tally_shown n (by_number new.nodes) in
          let b = ap (tally n) f in omega (arith, o, a, b));
      low = (let h = brought.0 in let q = ap height e in omega (arith, h, q));
      nodes = brought.1;
    }

-- ---- the page before the first shape

first_only : (a : ℕ) → on a (page_shape bare) ≡ true → 0 ≡ a
first_only a h = elim (cases_Bool (0 == a)) [ inl e ↦ eqb-true 0 a e | inr e ↦ absurd (false≢true (rw e at h)) ]

pub bare_page : IsPage bare
bare_page = record {
  rooted = record { below = none; is = refl };
  once = λ a. elim (cases_Bool (0 == a)) [ inl e ↦ rw e (omega arith) | inr e ↦ rw e (omega arith) ];
  below = λ a h. (let P : ℕ → Type 0 = λ z. number_of bare z < 1 in subst P (first_only a h) (omega arith));
  distinct = λ a b h g e. (let x = first_only a h in let y = first_only b g in sym x ∙ y);
}

pub bare_tree : IsTree (tree_of bare)
bare_tree = record {
  rooted = record { below = none; is = refl };
  once = λ n. elim (cases_Bool (0 == n)) [ inl e ↦ rw e (omega arith) | inr e ↦ rw e (omega arith) ];
  low = omega arith;
  nodes = tt;
}
