-- What marks on the next page find gives the operations, and how a walk puts them.
use Rattle.std.proofs.Common.{◌≡◌, ℕ, ◌+◌, ◌≤◌, ◌==◌, Bool, true, false, not, ◌||◌, List, [], ◌∷◌, ◌++◌, refl, sym, ap, subst, ◌∙◌, eqb-true, eq-eqb, inl, inr, leb, arith}
use Rattle.std.specs.List.{flat_map}
use Rattle.std.proofs.lemmas.Bool.{cases_Bool, false≢true, true≢false, or_cases, or_parts}
use Rattle.page_model.specs.Forest.{Forest, none, node, after, on, tally, keys, kids, pruned, tops}
use Rattle.page_model.specs.Labels.{Root, Look}
use Rattle.page_model.specs.Edits.{listed, siblings}
use Rattle.page_model.specs.Pages.{NumberedPage, IsPage, IsShape, SameOrigin, looks, page_shape, into_by, ascending_by, those}
use Rattle.page_model.proofs.Shared.{on_tally, or_left, or_right, tally_on, in_both, Knows, all_gone, from_those, in_keys, kept_on, knows, parent_at, still_on, tally_pruned, to_those}
use Rattle.tpl_model.specs.PageUpdates.Differences.{Gone, Marks, SameChildren, SameLook, Within, marked, often}
use Rattle.tpl_model.proofs.PageUpdates.Numbers.{read_law}
use Rattle.tpl_model.proofs.Numbered.{child_on, often_keys}
use Rattle.tpl_model.proofs.Orders.{listed_often, often_both, often_those, read_marked, unlisted_often}
use Rattle.tpl_model.specs.NextPage.Marks.{Covers, MarksLaw, Sees, WholeLaw, common, found_by, gone_children}

-- ---- marks are of nodes that are kept

-- what is common to both pages
pub record Both (old new : Forest Look) : Type 0 where
  pub once_old : (j : ℕ) → tally j old ≤ 1
  pub once_new : (j : ℕ) → tally j new ≤ 1
  pub kept : (j : ℕ) → on j old ≡ true → on j new ≡ true → on j (pruned (λ a. on a new) old) ≡ true

both_of : (p : NumberedPage) (shape : Forest Look) → IsPage p → IsShape shape → SameOrigin (page_shape p) shape → Both (page_shape p) shape
both_of p shape q s o =
    let before = page_shape p in
    let new = all_gone before shape q.once (λ a h. parent_at a shape s.rooted.below s.rooted.is s.once h) o.parents before (λ j e. e) (knows before q.once) in
    record { once_old = q.once; once_new = s.once; kept = λ j h k. still_on (λ a. on a shape) j before new h k }

-- marks on the next page are marks on the page that stands
marks_of : (old new : Forest Look) (Same : ℕ → Type 0) (marks : List ℕ) → Both old new → Covers old new Same marks → Marks (λ a. on a new) Same old marks
marks_of old new Same marks b c = record {
  few = λ j. elim (cases_Bool (listed j marks)) [
    | inl e ↦ (
        let f = c.few j in
        let u = listed_often j marks e in
        let n : on j new ≡ true = tally_on j new (omega (arith, f, u)) in
        let k = on_tally j (pruned (λ a. on a new) old) (b.kept j (c.there j e) n) in
        let l = b.once_new j in
        omega (arith, f, k, l))
    | inr e ↦ (let u = unlisted_often j marks e in omega (arith, u))
  ];
  rest = λ j h e. (let k = kept_on (λ a. on a new) j old h in c.rest j k.1 k.0 e);
}

-- ---- what is gone are children of kept nodes

-- of these children those that are gone
abbrev lost_of : (ℕ → Bool) → (ℕ → Forest Look) → ℕ → List ℕ
lost_of keep children a = those (λ b. not (keep b)) (siblings (children a))

-- the topmost nodes that are gone are gone siblings, and gone children of kept nodes
tops_split : (keep : ℕ → Bool) (children : ℕ → Forest Look) (j : ℕ) (t : Forest Look) → Knows children t →
    often j (tops keep t) ≡ often j (those (λ b. not (keep b)) (siblings t)) + often j (flat_map (lost_of keep children) (keys (pruned keep t)))
tops_split keep children j none k = refl
tops_split keep children j (node m x k r) kn =
    let i = tops_split keep children j k kn.1 in
    let l = tops_split keep children j r kn.2 in
    elim (cases_Bool (keep m)) [
      | inl e ↦ (
          let f : ℕ → List ℕ = lost_of keep children in
          let ks = keys (pruned keep k) in
          let rs = keys (pruned keep r) in
          let own : f m ≡ those (λ b. not (keep b)) (siblings k) = ap (λ z. those (λ b. not (keep b)) (siblings z)) kn.0 in
          let a = often_both j (tops keep k) (tops keep r) in
          let c = often_both j (f m) (flat_map f (ks ++ rs)) in
          let d : often j (flat_map f (ks ++ rs)) ≡ often j (flat_map f ks) + often j (flat_map f rs) = flat_both j f ks rs in
          let o : often j (f m) ≡ often j (those (λ b. not (keep b)) (siblings k)) = ap (often j) own in
          rw e (omega (arith, i, l, a, c, d, o)))
      | inr e ↦ rw e (omega (arith, l))
    ]
  where
    flat_both : (i : ℕ) (f : ℕ → List ℕ) (xs ys : List ℕ) → often i (flat_map f (xs ++ ys)) ≡ often i (flat_map f xs) + often i (flat_map f ys)
    flat_both i f [] ys = omega arith
    flat_both i f (z ∷ zs) ys =
        let a = often_both i (f z) (flat_map f (zs ++ ys)) in
        let b = often_both i (f z) (flat_map f zs) in
        let c = flat_both i f zs ys in
        omega (arith, a, b, c)

-- a list that is put in order holds each as often
flat_into : (num : ℕ → ℕ) (f : ℕ → List ℕ) (j a : ℕ) (xs : List ℕ) → often j (flat_map f (into_by num a xs)) ≡ often j (f a) + often j (flat_map f xs)
flat_into num f j a [] = often_both j (f a) []
flat_into num f j a (x ∷ xs) = elim (cases_Bool (leb (num a) (num x))) [
  | inl e ↦ rw e (often_both j (f a) (f x ++ flat_map f xs))
  | inr e ↦ rw e (
      let i = flat_into num f j a xs in
      let b = often_both j (f x) (flat_map f (into_by num a xs)) in
      let c = often_both j (f x) (flat_map f xs) in
      omega (arith, i, b, c))
]

pub flat_ascending : (num : ℕ → ℕ) (f : ℕ → List ℕ) (j : ℕ) (xs : List ℕ) → often j (flat_map f (ascending_by num xs)) ≡ often j (flat_map f xs)
flat_ascending num f j [] = refl
flat_ascending num f j (x ∷ xs) =
    let a = flat_into num f j x (ascending_by num xs) in
    let b = flat_ascending num f j xs in
    let c = often_both j (f x) (flat_map f xs) in
    omega (arith, a, b, c)

no_those : (test : ℕ → Bool) (xs : List ℕ) → ((j : ℕ) → listed j xs ≡ true → test j ≡ false) → those test xs ≡ []
no_those test [] h = refl
no_those test (x ∷ xs) h =
    let e : test x ≡ false = h x (or_left (x == x) (listed x xs) (eq-eqb x x refl)) in
    rw e (no_those test xs (λ j i. h j (or_right (x == j) (listed j xs) i)))

-- the gone children of marked nodes are all that is gone topmost
all_lost : (old new : Forest Look) (marks : List ℕ) → Both old new → those (λ b. not (on b new)) (siblings old) ≡ [] →
    Marks (λ a. on a new) (SameChildren old new) old marks → Gone (λ a. on a new) old (gone_children old new marks)
all_lost old new marks b root m = λ j. (
    let keep : ℕ → Bool = λ a. on a new in
    let f : ℕ → List ℕ = lost_of keep (λ a. kids a old) in
    let ks = keys (pruned keep old) in
    let once : (i : ℕ) → often i ks ≤ 1 = λ i. (let u = often_keys i (pruned keep old) in let v = tally_pruned keep i old in let w = b.once_old i in omega (arith, u, v, w)) in
    let few : (i : ℕ) → often i marks ≤ often i ks = λ i. (let u = often_keys i (pruned keep old) in let v = m.few i in omega (arith, u, v)) in
    let quiet : (i : ℕ) → listed i ks ≡ true → listed i marks ≡ false → f i ≡ [] = λ i h n. (
    let same : SameChildren old new i = m.rest i (sym (in_keys i (pruned keep old)) ∙ h) n in
    no_those (λ c. not (keep c)) (siblings (kids i old)) (λ c g. ap not (child_on i c new (ap (listed c) (sym same) ∙ g)))) in
    let read = read_marked (λ a. a) f ks marks (λ a c h g e. e) once few quiet in
    let u = flat_ascending (λ a. a) f j ks in
    let v = flat_ascending (λ a. a) f j marks in
    let w : often j (flat_map f (ascending_by (λ a. a) ks)) ≡ often j (flat_map f (ascending_by (λ a. a) marks)) = ap (often j) read in
    let s = tops_split keep (λ a. kids a old) j old (knows old b.once_old) in
    let z : often j (those (λ c. not (on c new)) (siblings old)) ≡ 0 = ap (often j) root in
    omega (arith, u, v, w, s, z))

-- the root is kept
root_kept : (old new os ns : Forest Look) → old ≡ node 0 Root os none → new ≡ node 0 Root ns none → those (λ b. not (on b new)) (siblings old) ≡ []
root_kept old new os ns e f = ap (λ z. those (λ b. not (on b new)) (siblings z)) e ∙ ap (λ z. those (λ b. not (on b z)) (0 ∷ [])) f

pub marks_law : MarksLaw
marks_law p shape children looks_marks q s o x =
    let before = page_shape p in
    let b = both_of p shape q s o in
    let c = marks_of before shape (SameChildren before shape) children b x.children in
    let root = root_kept before shape (looks q.rooted.below) s.rooted.below (ap looks q.rooted.is) s.rooted.is in
    read_law p shape (found_by before shape children looks_marks) q s o
    (record { gone = all_lost before shape children b root c; touched = c; restated = marks_of before shape (SameLook before shape) looks_marks b x.looks })

-- ---- all nodes of both pages

whole_covers : (old new : Forest Look) (Same : ℕ → Type 0) → Covers old new Same (common old new)
whole_covers old new Same = record {
  few = λ j. (
      let a = often_those (λ i. on i old) j (keys new) in
      let b = often_keys j new in
      elim (cases_Bool (on j old)) [ inl e ↦ (let a' = rw e at a in omega (arith, a', b)) | inr e ↦ (let a' = rw e at a in omega (arith, a')) ]);
  there = λ j h. (from_those (λ i. on i old) j (keys new) h).1;
  rest = λ j h k e. absurd (true≢false (sym (to_those (λ i. on i old) j (keys new) (in_keys j new ∙ h) k) ∙ e));
}

pub whole_law : WholeLaw
whole_law old new = record { children = whole_covers old new (SameChildren old new); looks = whole_covers old new (SameLook old new) }

-- ---- how a walk puts marks

pub covers_none : (old : Forest Look) (Same : ℕ → Type 0) → Covers old none Same []
covers_none old Same = record { few = λ j. omega arith; there = λ j h. absurd (false≢true h); rest = λ j h k e. absurd (false≢true h) }

on_after : (j : ℕ) (xs ys : Forest Look) → on j (after xs ys) ≡ (on j xs || on j ys)
on_after j none ys = refl
on_after j (node m x k r) ys = ap (λ z. m == j || (on j k || z)) (on_after j r ys) ∙ regroup (m == j) (on j k) (on j r) (on j ys)
  where
    regroup : (a b c d : Bool) → (a || (b || (c || d))) ≡ ((a || (b || c)) || d)
    regroup true b c d = refl
    regroup false true c d = refl
    regroup false false c d = refl

tally_after : (j : ℕ) (xs ys : Forest Look) → tally j (after xs ys) ≡ tally j xs + tally j ys
tally_after j none ys = omega arith
tally_after j (node m x k r) ys = omega (arith, tally_after j r ys)

-- one part after the other
pub covers_after : (old xs ys : Forest Look) (Same : ℕ → Type 0) (ms ns : List ℕ) → Covers old xs Same ms → Covers old ys Same ns →
    Covers old (after xs ys) Same (ms ++ ns)
covers_after old xs ys Same ms ns c d = record {
  few = λ j. (let a = c.few j in let b = d.few j in let o = often_both j ms ns in let t = tally_after j xs ys in omega (arith, a, b, o, t));
  there = λ j h. elim (or_cases (listed j ms) (listed j ns) (sym (in_both j ms ns) ∙ h)) [ inl e ↦ c.there j e | inr e ↦ d.there j e ];
  rest = λ j h k e. (
      let n = or_parts (listed j ms) (listed j ns) (sym (in_both j ms ns) ∙ e) in
      elim (or_cases (on j xs) (on j ys) (sym (on_after j xs ys) ∙ h)) [ inl f ↦ c.rest j f k n.0 | inr f ↦ d.rest j f k n.1 ]);
}

-- a node over what stands below it: it is marked, or it isn't on the page, or it has what it had
pub covers_node : (old : Forest Look) (a : ℕ) (x : Look) (k : Forest Look) (Same : ℕ → Type 0) (mark : Bool) (ms : List ℕ) →
    (mark ≡ true → on a old ≡ true) → (mark ≡ false → on a old ≡ true → Same a) → Covers old k Same ms → Covers old (node a x k none) Same (marked mark a ms)
covers_node old a x k Same true ms there same c = record {
  few = λ j. (let f = c.few j in omega (arith, f));
  there = λ j h. elim (or_cases (a == j) (listed j ms) h) [ inl e ↦ ap (λ z. on z old) (sym (eqb-true a j e)) ∙ there refl | inr e ↦ c.there j e ];
  rest = λ j h o e. (
      let n = or_parts (a == j) (listed j ms) e in
      elim (or_cases (a == j) (on j k || false) h) [
        | inl f ↦ absurd (true≢false (sym f ∙ n.0))
        | inr f ↦ elim (or_cases (on j k) false f) [ inl g ↦ c.rest j g o n.1 | inr g ↦ absurd (false≢true g) ]
      ]);
}
covers_node old a x k Same false ms there same c = record {
  few = λ j. (let f = c.few j in omega (arith, f));
  there = c.there;
  rest = λ j h o e. elim (or_cases (a == j) (on j k || false) h) [
    | inl f ↦ (let q : a ≡ j = eqb-true a j f in subst Same q (same refl (ap (λ z. on z old) q ∙ o)))
    | inr f ↦ elim (or_cases (on j k) false f) [ inl g ↦ c.rest j g o e | inr g ↦ absurd (false≢true g) ]
  ];
}

-- a part that is passed over: what it has it had
pub covers_skip : (old part : Forest Look) (Same : ℕ → Type 0) → ((j : ℕ) → on j part ≡ true → Same j) → Covers old part Same []
covers_skip old part Same same = record { few = λ j. omega arith; there = λ j h. absurd (false≢true h); rest = λ j h k e. same j h }

pub sees_none : (old new : Forest Look) → Sees old new none [] []
sees_none old new = record { children = covers_none old (SameChildren old new); looks = covers_none old (SameLook old new) }

pub sees_after : (old new xs ys : Forest Look) (cs ls ds ms : List ℕ) → Sees old new xs cs ls → Sees old new ys ds ms →
    Sees old new (after xs ys) (cs ++ ds) (ls ++ ms)
sees_after old new xs ys cs ls ds ms a b = record {
  children = covers_after old xs ys (SameChildren old new) cs ds a.children b.children;
  looks = covers_after old xs ys (SameLook old new) ls ms a.looks b.looks;
}

-- a node that stands on the page, over what stands below it: whether its children may differ, and whether its look may
pub sees_node : (old new : Forest Look) (a : ℕ) (x : Look) (k : Forest Look) (level look : Bool) (cs ls : List ℕ) → on a old ≡ true →
    (level ≡ false → SameChildren old new a) → (look ≡ false → SameLook old new a) → Sees old new k cs ls →
    Sees old new (node a x k none) (marked level a cs) (marked look a ls)
sees_node old new a x k level look cs ls o same seen s = record {
  children = covers_node old a x k (SameChildren old new) level cs (λ e. o) (λ e h. same e) s.children;
  looks = covers_node old a x k (SameLook old new) look ls (λ e. o) (λ e h. seen e) s.looks;
}

-- a part of both pages is passed over
pub sees_skip : (old new part : Forest Look) → Within old part → Within new part → Sees old new part [] []
sees_skip old new part w v = record {
  children = covers_skip old part (SameChildren old new) (λ j h. ap siblings (w.kids_there j h ∙ sym (v.kids_there j h)));
  looks = covers_skip old part (SameLook old new) (λ j h. w.look_there j h ∙ sym (v.look_there j h));
}
