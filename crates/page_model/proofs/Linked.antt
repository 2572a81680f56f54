-- What the laws ask, from two trees in which no number stands twice and each kept node has the same parent.
use Rattle.std.proofs.Common.{◌≡◌, ℕ, ◌≤◌, ◌==◌, true, false, ◌||◌, refl, sym, ap, ◌∙◌, arith, eqb-true, eq-eqb, inl, inr}
use Rattle.std.proofs.lemmas.Bool.{cases_Bool, false≢true, true≢false, or_cases, or_left, or_right, or_parts}
use Rattle.page_model.specs.Forest.{Forest, none, node, has, only, on, tally, kids, parent, label_in}
use Rattle.page_model.proofs.Facts.{Apart, Single, Knows, Clear, Matches, Ready, Labelled, Linked}
use Rattle.page_model.proofs.Everywhere.{or_false}
use Rattle.page_model.proofs.Tally.{on_tally, tally_off, parent_is, kids_low, tally_parts, top_has, has_on}
use Rattle.page_model.proofs.Parents.{off_kids}
use Rattle.page_model.proofs.Arrive.{later_in}

pub on_kids : {A : Type 0} (p n : ℕ) (t : Forest A) → on n (kids p t) ≡ true → on n t ≡ true
on_kids p n t h = elim (cases_Bool (on n t)) [ inl e ↦ e | inr e ↦ absurd (true≢false (sym h ∙ off_kids n p t e)) ]

pub self_on : {A : Type 0} (m : ℕ) (x : A) (k r : Forest A) → on m (node m x k r) ≡ true
self_on m x k r = or_left (m == m) (on m k || on m r) (eq-eqb m m refl)

pub tally_kids : {A : Type 0} (p j : ℕ) (t : Forest A) → tally j (kids p t) ≤ tally j t
tally_kids p j none = omega arith
tally_kids p j (node m x k r) = elim (cases_Bool (m == p)) [
  | inl e ↦ rw e (omega arith)
  | inr e ↦ elim (cases_Bool (on p k)) [
    | inl f ↦ (let i = tally_kids p j k in rw (e, f) (omega arith))
    | inr f ↦ (let i = tally_kids p j r in rw (e, f) (omega arith))
  ]
]

apart_of : {A : Type 0} (t : Forest A) → ((j : ℕ) → tally j t ≤ 1) → Apart t
apart_of none l = tt
apart_of (node m x k r) l =
    let here : (m == m) ≡ true = eq-eqb m m refl in
    let lm = rw here at (l m) in
    let z : on m r ≡ false = tally_off m r (omega arith) in
    (elim (cases_Bool (has m r)) [ inl e ↦ absurd (true≢false (sym (has_on m r e) ∙ z)) | inr e ↦ e ], apart_of r (λ j. (let i = l j in omega arith)))

pub single_of : {A : Type 0} (t : Forest A) → ((j : ℕ) → tally j t ≤ 1) → Single t
single_of none l = tt
single_of (node m x k r) l =
    let here : (m == m) ≡ true = eq-eqb m m refl in
    let lm = rw here at (l m) in (
      tally_off m k (omega arith),
      tally_off m r (omega arith),
      single_of k (λ j. (let i = l j in omega arith)),
      single_of r (λ j. (let i = l j in omega arith)),
      λ j h. (let i = l j in let a = on_tally j k h in tally_off j r (omega arith)),
    )

-- where a node of a forest with distinct keys is looked for
in_kids : {A : Type 0} (n m : ℕ) (x : A) (k r : Forest A) → ((j : ℕ) → tally j (node m x k r) ≤ 1) → on n k ≡ true → kids n (node m x k r) ≡ kids n k
in_kids n m x k r l h = elim (cases_Bool (m == n)) [
  | inl e ↦ (let i = rw e at (l n) in let a = on_tally n k h in absurd (omega arith))
  | inr e ↦ rw (e, h) refl
]

in_rest : {A : Type 0} (n m : ℕ) (x : A) (k r : Forest A) → ((j : ℕ) → tally j (node m x k r) ≤ 1) → on n r ≡ true → kids n (node m x k r) ≡ kids n r
in_rest n m x k r l h = elim (cases_Bool (m == n)) [
  | inl e ↦ (let i = rw e at (l n) in let a = on_tally n r h in absurd (omega arith))
  | inr e ↦ (let i = l n in let a = on_tally n r h in let z : on n k ≡ false = tally_off n k (omega arith) in rw (e, z) refl)
]

knows_in : {A : Type 0} (look : ℕ → Forest A) (t : Forest A) → ((j : ℕ) → tally j t ≤ 1) → ((n : ℕ) → on n t ≡ true → look n ≡ kids n t) → Knows look t
knows_in look none l h = tt
knows_in look (node m x k r) l h =
    let here : (m == m) ≡ true = eq-eqb m m refl in (
      h m (self_on m x k r) ∙ (rw here refl),
      knows_in look k (λ j. (let i = l j in omega arith)) (λ n e. h n (or_right (m == n) (on n k || on n r) (or_left (on n k) (on n r) e)) ∙ in_kids n m x k r l e),
      knows_in look r (λ j. (let i = l j in omega arith)) (λ n e. h n (or_right (m == n) (on n k || on n r) (or_right (on n k) (on n r) e)) ∙ in_rest n m x k r l e),
    )

pub knows : {A : Type 0} (t : Forest A) → ((j : ℕ) → tally j t ≤ 1) → Knows (λ n. kids n t) t
knows t l = knows_in (λ n. kids n t) t l (λ n e. refl)

-- a node that isn't among the first siblings stands among its parent's children
placed : {A : Type 0} (n : ℕ) (t : Forest A) (p : ℕ) → parent n t ≡ p → has n (kids p t) ≡ true → on p t ≡ true → (has n (kids (parent n t) t) ≡ true) × (on (parent n t) t ≡ true)
placed n t p q h o = rw q (h, o)

pub has_parent : {A : Type 0} (n : ℕ) (t : Forest A) → ((j : ℕ) → tally j t ≤ 1) → on n t ≡ true → has n t ≡ false → (has n (kids (parent n t) t) ≡ true) × (on (parent n t) t ≡ true)
has_parent n none l o h = absurd (false≢true o)
has_parent n (node m x k r) l o h =
    elim (cases_Bool (has n k)) [
      | inl e ↦ (let here : (m == m) ≡ true = eq-eqb m m refl in rw e (rw here (e, refl)))
      | inr e ↦ elim (cases_Bool (on n k)) [
        | inl f ↦ (
            let i = has_parent n k (λ j. (let q = l j in omega arith)) f e in
            let q : parent n (node m x k r) ≡ parent n k = rw (e, f) refl in
            placed n (node m x k r) (parent n k) q (ap (has n) (in_kids (parent n k) m x k r l i.1) ∙ i.0) (or_right (m == parent n k) (on (parent n k) k || on (parent n k) r) (or_left (on (parent n k) k) (on (parent n k) r) i.1)))
        | inr f ↦ (
            let a = or_parts (m == n) (has n r) h in
            let o' : on n r ≡ true = rw (a.0, f) at o in
            let i = has_parent n r (λ j. (let q = l j in omega arith)) o' a.1 in
            let q : parent n (node m x k r) ≡ parent n r = rw (e, f) refl in
            placed n (node m x k r) (parent n r) q (ap (has n) (in_rest (parent n r) m x k r l i.1) ∙ i.0) (or_right (m == parent n r) (on (parent n r) k || on (parent n r) r) (or_right (on (parent n r) k) (on (parent n r) r) i.1)))
      ]
    ]

-- each node's children have it as their parent
abbrev pub Sits : {A : Type 0} → (ℕ → ℕ) → Forest A → Type 0
Sits up none = Unit {0}
Sits up (node m x k r) = ((n : ℕ) → has n k ≡ true → up n ≡ m) × Sits up k × Sits up r

sits_kids : {A : Type 0} (up : ℕ → ℕ) (p : ℕ) (t : Forest A) → Sits up t → Sits up (kids p t)
sits_kids up p none s = tt
sits_kids up p (node m x k r) s = elim (cases_Bool (m == p)) [
  | inl e ↦ rw e s.1
  | inr e ↦ elim (cases_Bool (on p k)) [ inl f ↦ rw (e, f) (sits_kids up p k s.1) | inr f ↦ rw (e, f) (sits_kids up p r s.2) ]
]

sits_in : {A : Type 0} (up : ℕ → ℕ) (t : Forest A) → ((n p : ℕ) → on p t ≡ true → has n (kids p t) ≡ true → up n ≡ p) → ((j : ℕ) → tally j t ≤ 1) → Sits up t
sits_in up none h l = tt
sits_in up (node m x k r) h l =
    let here : (m == m) ≡ true = eq-eqb m m refl in (
      λ n e. h n m (self_on m x k r) (rw here e),
      sits_in up k (λ n p o e. h n p (or_right (m == p) (on p k || on p r) (or_left (on p k) (on p r) o)) (ap (has n) (in_kids p m x k r l o) ∙ e)) (λ j. (let i = l j in omega arith)),
      sits_in up r (λ n p o e. h n p (or_right (m == p) (on p k || on p r) (or_right (on p k) (on p r) o)) (ap (has n) (in_rest p m x k r l o) ∙ e)) (λ j. (let i = l j in omega arith)),
    )

pub sits : {A : Type 0} (t : Forest A) → ((j : ℕ) → tally j t ≤ 1) → Sits (λ n. parent n t) t
sits t l = sits_in (λ n. parent n t) t (λ n p o e. parent_is p n t (l n) o e) l

in_new : {A : Type 0} (old new : Forest A) (n p : ℕ) → Linked old new → on p old ≡ true → has n (kids p old) ≡ true → has n (kids p new) ≡ true
in_new old new n p l o h =
    let on_n = on_kids p n old (has_on n (kids p old) h) in
    let q = parent_is p n old (l.old_once n) o h in
    let a = kids_low p n old o h in
    let b = tally_parts n old in
    let c = l.old_once n in
    let t : has n old ≡ false = top_has n old (omega arith) in
    let e = has_parent n new l.new_once (l.within n on_n) (l.below_new n t) in
    rw (sym (l.same_parent n on_n) ∙ q) at e.0

in_old : {A : Type 0} (old new : Forest A) (n p : ℕ) → Linked old new → on p new ≡ true → on n old ≡ true → has n (kids p new) ≡ true → has n (kids p old) ≡ true
in_old old new n p l o on_n h =
    let q = parent_is p n new (l.new_once n) o h in
    let a = kids_low p n new o h in
    let b = tally_parts n new in
    let c = l.new_once n in
    let t : has n new ≡ false = top_has n new (omega arith) in
    let e = has_parent n old l.old_once on_n (l.below_old n t) in
    rw (l.same_parent n on_n ∙ q) at e.0

pub ready_of : {A : Type 0} (old new : Forest A) (p : ℕ) → Linked old new → on p old ≡ true → Ready (λ n. on n old) (kids p old) (kids p new)
ready_of old new p l o = record {
  apart = apart_of (kids p old) (λ j. (let a = tally_kids p j old in let b = l.old_once j in omega arith));
  apart_new = apart_of (kids p new) (λ j. (let a = tally_kids p j new in let b = l.new_once j in omega arith));
  cover = λ m h. in_new old new m p l o h;
  known = λ m h. elim (cases_Bool (on m old)) [
    | inl e ↦ in_old old new m p l (l.within p o) e h ∙ sym e
    | inr e ↦ elim (cases_Bool (has m (kids p old))) [
      | inl f ↦ absurd (true≢false (sym (on_kids p m old (has_on m (kids p old) f)) ∙ e))
      | inr f ↦ f ∙ sym e
    ]
  ];
}

-- ---- labels

abbrev pub Tells : {A : Type 0} → (ℕ → A) → Forest A → Type 0
Tells lab none = Unit {0}
Tells lab (node m x k r) = (lab m ≡ x) × Tells lab k × Tells lab r

tells_in : {A : Type 0} (d : A) (lab : ℕ → A) (t : Forest A) → ((j : ℕ) → tally j t ≤ 1) → ((n : ℕ) → on n t ≡ true → lab n ≡ label_in d n t) → Tells lab t
tells_in d lab none l h = tt
tells_in d lab (node m x k r) l h =
    let here : (m == m) ≡ true = eq-eqb m m refl in (
      h m (self_on m x k r) ∙ (rw here refl),
      tells_in d lab k (λ j. (let i = l j in omega arith)) (λ n e. h n (or_right (m == n) (on n k || on n r) (or_left (on n k) (on n r) e)) ∙ elim (cases_Bool (m == n)) [
        | inl f ↦ (let i = rw f at (l n) in let a = on_tally n k e in absurd (omega arith))
        | inr f ↦ rw (f, e) refl
      ]),
      tells_in d lab r (λ j. (let i = l j in omega arith)) (λ n e. h n (or_right (m == n) (on n k || on n r) (or_right (on n k) (on n r) e)) ∙ elim (cases_Bool (m == n)) [
        | inl f ↦ (let i = rw f at (l n) in let a = on_tally n r e in absurd (omega arith))
        | inr f ↦ (let i = l n in let a = on_tally n r e in let z : on n k ≡ false = tally_off n k (omega arith) in rw (f, z) refl)
      ]),
    )

pub tells : {A : Type 0} (d : A) (t : Forest A) → ((j : ℕ) → tally j t ≤ 1) → Tells (λ n. label_in d n t) t
tells d t l = tells_in d (λ n. label_in d n t) t l (λ n e. refl)

pub knows_kids : {A : Type 0} (look : ℕ → Forest A) (p : ℕ) (t : Forest A) → Knows look t → Knows look (kids p t)
knows_kids look p none s = tt
knows_kids look p (node m x k r) s = elim (cases_Bool (m == p)) [
  | inl e ↦ rw e s.1
  | inr e ↦ elim (cases_Bool (on p k)) [ inl f ↦ rw (e, f) (knows_kids look p k s.1) | inr f ↦ rw (e, f) (knows_kids look p r s.2) ]
]

pub tells_kids : {A : Type 0} (lab : ℕ → A) (p : ℕ) (t : Forest A) → Tells lab t → Tells lab (kids p t)
tells_kids lab p none s = tt
tells_kids lab p (node m x k r) s = elim (cases_Bool (m == p)) [
  | inl e ↦ rw e s.1
  | inr e ↦ elim (cases_Bool (on p k)) [ inl f ↦ rw (e, f) (tells_kids lab p k s.1) | inr f ↦ rw (e, f) (tells_kids lab p r s.2) ]
]

pub only_known : {A : Type 0} (look : ℕ → Forest A) (lab : ℕ → A) (n : ℕ) (t : Forest A) → Knows look t → Tells lab t → has n t ≡ true → only n t ≡ node n (lab n) (look n) none
only_known look lab n none kn te h = absurd (false≢true h)
only_known look lab n (node m x k r) kn te h = elim (cases_Bool (m == n)) [
  | inl e ↦ (
      let q : m ≡ n = eqb-true m n e in
      rw e (ap (λ z. node m z k none) (sym te.0) ∙ (ap (λ z. node m (lab m) z none) (sym kn.0) ∙ ap (λ i. node i (lab i) (look i) none) q)))
  | inr e ↦ rw e (only_known look lab n r kn.2 te.2 (rw e at h))
]

pub first_in : {A : Type 0} (n : ℕ) (x : A) (k r : Forest A) → has n (node n x k r) ≡ true
first_in n x k r = or_left (n == n) (has n r) (eq-eqb n n refl)

pub matches_at : {A : Type 0} (old new : Forest A) (lab : ℕ → A) (ns : Forest A) (p : ℕ) → Linked old new → Tells lab old → on p old ≡ true → ((n : ℕ) → has n ns ≡ true → has n (kids p new) ≡ true) → Knows (λ n. kids n new) ns → Matches (λ n. on n old) lab (kids p old) ns
matches_at old new lab none p l te o h kn = tt
matches_at old new lab (node n x k r) p l te o h kn = (
  λ e. (
    kids n old,
    only_known (λ i. kids i old) lab n (kids p old) (knows_kids (λ i. kids i old) p old (knows old l.old_once)) (tells_kids lab p old te)
        (in_old old new n p l (l.within p o) e (h n (first_in n x k r))),
    matches_at old new lab k n l te e (λ j i. ap (has j) kn.0 ∙ i) kn.1,
  ),
  matches_at old new lab r p l te o (λ j i. h j (later_in n j x k r i)) kn.2,
)

-- ---- below a new node all are new

pub kids_off : {A : Type 0} (p : ℕ) (t : Forest A) → on p t ≡ false → kids p t ≡ none
kids_off p none h = refl
kids_off p (node m x k r) h =
    let a = or_false (m == p) (on p k) (on p r) h in
    rw (a.0, a.1) (kids_off p r a.2)

new_child : {A : Type 0} (old new : Forest A) (m n : ℕ) → Linked old new → on n new ≡ true → on n old ≡ false → has m (kids n new) ≡ true → on m old ≡ false
new_child old new m n l o z h = elim (cases_Bool (on m old)) [
  | inl e ↦ (
      let i = in_old old new m n l o e h in
      absurd (false≢true (sym (ap (has m) (kids_off n old z)) ∙ i)))
  | inr e ↦ e
]

all_new : {A : Type 0} (old new k : Forest A) (n : ℕ) → Linked old new → on n new ≡ true → on n old ≡ false → ((j : ℕ) → has j k ≡ true → has j (kids n new) ≡ true) → Knows (λ i. kids i new) k → (j : ℕ) → on j k ≡ true → on j old ≡ false
all_new old new none n l o z h kn j i = absurd (false≢true i)
all_new old new (node m x k r) n l o z h kn j i =
    let hm = h m (first_in m x k r) in
    let zm = new_child old new m n l o z hm in
    let om = on_kids n m new (has_on m (kids n new) hm) in
    elim (cases_Bool (m == j)) [
      | inl e ↦ (let q : m ≡ j = eqb-true m j e in ap (λ a. on a old) (sym q) ∙ zm)
      | inr e ↦ (
          let i' : (on j k || on j r) ≡ true = rw e at i in
          elim (or_cases (on j k) (on j r) i') [
            | inl f ↦ all_new old new k m l om zm (λ a b. ap (has a) kn.0 ∙ b) kn.1 j f
            | inr f ↦ all_new old new r n l o z (λ a b. h a (later_in m a x k r b)) kn.2 j f
          ])
    ]

clear_at : {A : Type 0} (old new ns : Forest A) (p : ℕ) → Linked old new → on p old ≡ true → ((n : ℕ) → has n ns ≡ true → on n new ≡ true) → Knows (λ i. kids i new) ns → Clear (λ n. on n old) p ns
clear_at old new none p l o h kn = tt
clear_at old new (node n x k r) p l o h kn = (
  λ z. (
      let a = all_new old new k n l (h n (first_in n x k r)) z (λ j b. ap (has j) kn.0 ∙ b) kn.1 in
      let c : (n == p) ≡ false = elim (cases_Bool (n == p)) [ inl e ↦ (let q : n ≡ p = eqb-true n p e in absurd (true≢false (sym o ∙ ap (λ i. on i old) (sym q) ∙ z))) | inr e ↦ e ] in
      let d : on p k ≡ false = elim (cases_Bool (on p k)) [ inl e ↦ absurd (true≢false (sym o ∙ a p e)) | inr e ↦ e ] in
      rw (c, d) refl),
  clear_at old new r p l o (λ j b. h j (later_in n j x k r b)) kn.2,
)

pub clear_of : {A : Type 0} (old new : Forest A) (p q : ℕ) → Linked old new → on p old ≡ true → Clear (λ n. on n old) p (kids q new)
clear_of old new p q l o = clear_at old new (kids q new) p l o (λ n h. on_kids q n new (has_on n (kids q new) h)) (knows_kids (λ i. kids i new) q new (knows new l.new_once))

labelled_at : {A : Type 0} (old new : Forest A) (lab : ℕ → A) (ns : Forest A) → Linked old new → Tells lab ns → ((n : ℕ) → on n ns ≡ true → on n new ≡ true) → Knows (λ i. kids i new) ns → Labelled (λ n. on n old) lab ns
labelled_at old new lab none l te h kn = tt
labelled_at old new lab (node m x k r) l te h kn = (
  λ e. (te.0, labelled_at old new lab k l te.1 (λ n i. h n (or_right (m == n) (on n k || on n r) (or_left (on n k) (on n r) i))) kn.1),
  λ z. all_new old new k m l (h m (self_on m x k r)) z (λ j b. ap (has j) kn.0 ∙ b) kn.1,
  labelled_at old new lab r l te.2 (λ n i. h n (or_right (m == n) (on n k || on n r) (or_right (on n k) (on n r) i))) kn.2,
)

pub labelled_of : {A : Type 0} (d : A) (old new : Forest A) → Linked old new → Labelled (λ n. on n old) (λ n. label_in d n new) new
labelled_of d old new l = labelled_at old new (λ n. label_in d n new) new l (tells d new l.new_once) (λ n i. i) (knows new l.new_once)
