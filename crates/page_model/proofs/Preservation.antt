-- What operations keep of a numbered tree.
use Rattle.std.proofs.Common.{◌≡◌, ℕ, zero, suc, ◌+◌, ◌≤◌, ◌==◌, Bool, true, false, ◌||◌, ◌&&◌, not, refl, sym, ap, subst, ◌∙◌, arith, eqb-true, eq-eqb, inl, inr, leb, ltb, if◌then◌else◌, ◌⊎◌, List, [], ◌∷◌, Option, Some, None, length}
use Rattle.std.specs.Str.{bytes_eq}
use Rattle.std.proofs.lemmas.Slice.Eq.{bytes_eq-Decides}
use Rattle.std.proofs.lemmas.Bool.{cases_Bool, false≢true, or_cases, ltb-false, and_parts}
use Rattle.page_model.specs.Forest.{Forest, none, node, after, count, only, without, put, moved, on, tally, kids, parent, label_in, depth, height, at, pruned, relabelled}
use Rattle.page_model.specs.Labels.{Root, Text, Element, Kind, holds, named, Distinct}
use Rattle.page_model.specs.Replay.{Op, OpRemove, OpInsert, OpMove, OpText, OpAttr, OpUnattr, Done, Refused, Answer, do_op, do_text, do_attr, do_unattr, below_root, first_used, first_deep, or_else, unless_found, OpRefusal, NoSuchNode, NoSuchPlace, NumberUsed, TooDeep, others, put_in}
use Rattle.page_model.specs.Trees.{IsNode, AreNodes, IsTree, Brings}
use Rattle.page_model.proofs.Everywhere.{or_false, at_away}
use Rattle.page_model.proofs.Tally.{off_tally, on_tally, tally_off, at_named, tally_at}
use Rattle.page_model.proofs.Linked.{has_parent}
use Rattle.page_model.proofs.Whole.{tally_pruned}
use Rattle.page_model.proofs.Told.{relabelled_off, tally_relabelled}

-- ---- depth

-- none of these stands more than 32 steps below the root, where the siblings stand d steps below it
abbrev pub Low : ℕ → Forest Kind → Type 0
Low d none = Unit {0}
Low d (node n x k r) = (d ≤ 32) × Low (suc d) k × Low d r

low_of : (d : ℕ) (t : Forest Kind) → d + height t ≤ 33 → Low d t
low_of d none h = tt
low_of d (node n x k r) h = (omega arith, low_of (suc d) k (omega arith), low_of d r (omega arith))

height_of : (d : ℕ) (t : Forest Kind) → d ≤ 33 → Low d t → d + height t ≤ 33
height_of d none b l = omega arith
height_of d (node n x k r) b l = (let i = height_of (suc d) k (let z = l.0 in omega arith) l.1 in let j = height_of d r b l.2 in omega (arith, i, j))

low_after : (d : ℕ) (xs ys : Forest Kind) → Low d xs → Low d ys → Low d (after xs ys)
low_after d none ys a b = b
low_after d (node n x k r) ys a b = (a.0, a.1, low_after d r ys a.2 b)

low_put : (d i : ℕ) (xs ys : Forest Kind) → Low d xs → Low d ys → Low d (put i xs ys)
low_put d zero xs ys a b = low_after d xs ys a b
low_put d (suc i) xs none a b = a
low_put d (suc i) xs (node n x k r) a b = (b.0, b.1, low_put d i xs r a b.2)

low_only : (d n : ℕ) (xs : Forest Kind) → Low d xs → Low d (only n xs)
low_only d n none l = tt
low_only d n (node m x k r) l = elim (cases_Bool (m == n)) [ inl e ↦ rw e (l.0, l.1, tt) | inr e ↦ rw e (low_only d n r l.2) ]

low_without : (d n : ℕ) (xs : Forest Kind) → Low d xs → Low d (without n xs)
low_without d n none l = tt
low_without d n (node m x k r) l = elim (cases_Bool (m == n)) [ inl e ↦ rw e l.2 | inr e ↦ rw e (l.0, l.1, low_without d n r l.2) ]

low_pruned : (d : ℕ) (keep : ℕ → Bool) (xs : Forest Kind) → Low d xs → Low d (pruned keep xs)
low_pruned d keep none l = tt
low_pruned d keep (node m x k r) l = elim (cases_Bool (keep m)) [
  | inl e ↦ rw e (l.0, low_pruned (suc d) keep k l.1, low_pruned d keep r l.2)
  | inr e ↦ rw e (low_pruned d keep r l.2)
]

low_relabelled : (d n : ℕ) (lab : Kind) (xs : Forest Kind) → Low d xs → Low d (relabelled n lab xs)
low_relabelled d n lab none l = tt
low_relabelled d n lab (node m x k r) l = (l.0, low_relabelled (suc d) n lab k l.1, low_relabelled d n lab r l.2)

low_at : (d p : ℕ) (f : Forest Kind → Forest Kind) (t : Forest Kind) → tally p t ≤ 1 → ((c : Forest Kind) → Low (suc (d + depth p t)) c → Low (suc (d + depth p t)) (f c)) → Low d t → Low d (at p f t)
low_at d p f none o h l = tt
low_at d p f (node m x k r) o h l = elim (cases_Bool (m == p)) [
  | inl e ↦ (
      let off : on p r ≡ false = tally_off p r (let z = rw e at o in omega arith) in
      let P : ℕ → Type 0 = λ j. Low (suc j) (f k) in
      let Q : ℕ → Type 0 = λ j. Low (suc j) k in
      let z : d + 0 ≡ d = omega arith in
      let h' = rw e at h in
      rw (e, at_away p f r off) (l.0, subst P z (h' k (subst Q (sym z) l.1)), l.2))
  | inr e ↦ elim (cases_Bool (on p k)) [
    | inl g ↦ (
        let many = on_tally p k g in
        let off : on p r ≡ false = tally_off p r (let z = rw e at o in omega (arith, many)) in
        let h' = rw (e, g) at h in
        let z : d + suc (depth p k) ≡ suc d + depth p k = omega arith in
        let P : ℕ → Type 0 = λ j. (c : Forest Kind) → Low (suc j) c → Low (suc j) (f c) in
        rw (e, at_away p f r off) (l.0, low_at (suc d) p f k (let z = rw e at o in omega arith) (subst P z h') l.1, l.2))
    | inr g ↦ (
        let h' = rw (e, g) at h in
        rw (e, at_away p f k g) (l.0, l.1, low_at d p f r (let z = rw e at o in omega arith) h' l.2))
  ]
]

or_none : (a b : Option ℕ) → or_else a b ≡ None → (a ≡ None) × (b ≡ None)
or_none None b h = (refl, h)
or_none (Some n) b h = absurd (cc)

low_brought : (d : ℕ) (t : Forest Kind) → first_deep d t ≡ None → Low d t
low_brought d none h = tt
low_brought d (node n x k r) h = elim (cases_Bool (ltb 32 d)) [
  | inl e ↦ (let z : Some n ≡ None = rw e at h in absurd (cc))
  | inr e ↦ (
      let b : or_else (first_deep (suc d) k) (first_deep d r) ≡ None = rw e at h in
      let i = or_none (first_deep (suc d) k) (first_deep d r) b in
      (ltb-false 32 d e, low_brought (suc d) k i.0, low_brought d r i.1))
]

-- ---- numbers

tally_after : (j : ℕ) (xs ys : Forest Kind) → tally j (after xs ys) ≡ tally j xs + tally j ys
tally_after j none ys = omega arith
tally_after j (node m x k r) ys = omega (arith, tally_after j r ys)

tally_put : (j i : ℕ) (xs ys : Forest Kind) → tally j (put i xs ys) ≡ tally j xs + tally j ys
tally_put j zero xs ys = tally_after j xs ys
tally_put j (suc i) xs none = omega arith
tally_put j (suc i) xs (node m x k r) = omega (arith, tally_put j i xs r)

tally_apart : (j n : ℕ) (xs : Forest Kind) → tally j (only n xs) + tally j (without n xs) ≡ tally j xs
tally_apart j n none = omega arith
tally_apart j n (node m x k r) = elim (cases_Bool (m == n)) [
  | inl e ↦ rw e (omega arith)
  | inr e ↦ (let i = tally_apart j n r in rw e (omega (arith, i)))
]

tally_moved : (j n i : ℕ) (xs : Forest Kind) → tally j (moved n i xs) ≡ tally j xs
tally_moved j n i xs = tally_put j i (only n xs) (without n xs) ∙ tally_apart j n xs

or_last : (a b : Bool) → (a || b) ≡ false → (a || (b || false)) ≡ false
or_last true b h = h
or_last false true h = h
or_last false false h = refl

-- how often a number stands in a tree after an insertion and after a move
pub tally_inserted : (j p i : ℕ) (s t : Forest Kind) → tally p t ≤ 1 → on p t ≡ true → tally j (at p (put i s) t) ≡ tally j t + tally j s
tally_inserted j p i s t o there =
    let one_name = ap (tally j) (at_named p (put i s) t o) in
    let sum = tally_at p j (put i s (kids p t)) t o there in
    let more = tally_put j i s (kids p t) in
    omega (arith, one_name, sum, more)

pub tally_kept : (j p n i : ℕ) (t : Forest Kind) → tally p t ≤ 1 → on p t ≡ true → tally j (at p (moved n i) t) ≡ tally j t
tally_kept j p n i t o there =
    let one_name = ap (tally j) (at_named p (moved n i) t o) in
    let sum = tally_at p j (moved n i (kids p t)) t o there in
    let same = tally_moved j n i (kids p t) in
    omega (arith, one_name, sum, same)

-- and with a child taken out
pub tally_parted : (j p n : ℕ) (t : Forest Kind) → tally p t ≤ 1 → on p t ≡ true → tally j (at p (without n) t) + tally j (only n (kids p t)) ≡ tally j t
tally_parted j p n t o there =
    let one_name = ap (tally j) (at_named p (without n) t o) in
    let sum = tally_at p j (without n (kids p t)) t o there in
    let parts = tally_apart j n (kids p t) in
    omega (arith, one_name, sum, parts)

pub unused : (whole part now : Forest Kind) → first_used whole part now ≡ None → (j : ℕ) → on j part ≡ true → (on j now ≡ false) × (tally j whole ≤ 1)
unused whole none now h j o = absurd (false≢true o)
unused whole (node n x k r) now h j o = elim (cases_Bool (on n now || ltb 1 (tally n whole))) [
  | inl e ↦ (let z : Some n ≡ None = rw e at h in absurd (cc))
  | inr e ↦ (
      let b : or_else (first_used whole k now) (first_used whole r now) ≡ None = rw e at h in
      let i = or_none (first_used whole k now) (first_used whole r now) b in
      let here = or_false (on n now) (ltb 1 (tally n whole)) false (let y : (on n now || (ltb 1 (tally n whole) || false)) ≡ false = or_last (on n now) (ltb 1 (tally n whole)) e in y) in
      elim (or_cases (n == j) (on j k || on j r) o) [
        | inl f ↦ (
            let q : n ≡ j = eqb-true n j f in
            (ap (λ m. on m now) (sym q) ∙ here.0, (let l = ltb-false 1 (tally n whole) here.1 in let t = ap (λ m. tally m whole) q in omega (arith, l, t))))
        | inr f ↦ elim (or_cases (on j k) (on j r) f) [
          | inl g ↦ unused whole k now i.0 j g
          | inr g ↦ unused whole r now i.1 j g
        ]
      ])
]

-- ---- nodes

nodes_after : (xs ys : Forest Kind) → AreNodes xs → AreNodes ys → AreNodes (after xs ys)
nodes_after none ys a b = b
nodes_after (node m x k r) ys a b = (a.0, a.1, nodes_after r ys a.2 b)

nodes_put : (i : ℕ) (xs ys : Forest Kind) → AreNodes xs → AreNodes ys → AreNodes (put i xs ys)
nodes_put zero xs ys a b = nodes_after xs ys a b
nodes_put (suc i) xs none a b = a
nodes_put (suc i) xs (node m x k r) a b = (b.0, b.1, nodes_put i xs r a b.2)

nodes_only : (n : ℕ) (xs : Forest Kind) → AreNodes xs → AreNodes (only n xs)
nodes_only n none a = tt
nodes_only n (node m x k r) a = elim (cases_Bool (m == n)) [ inl e ↦ rw e (a.0, a.1, tt) | inr e ↦ rw e (nodes_only n r a.2) ]

nodes_without : (n : ℕ) (xs : Forest Kind) → AreNodes xs → AreNodes (without n xs)
nodes_without n none a = tt
nodes_without n (node m x k r) a = elim (cases_Bool (m == n)) [ inl e ↦ rw e a.2 | inr e ↦ rw e (a.0, a.1, nodes_without n r a.2) ]

node_below : (x : Kind) (k k' : Forest Kind) → (k ≡ none → k' ≡ none) → IsNode x k → IsNode x k'
node_below Root k k' h a = a
node_below (Text t) k k' h a = h a
node_below (Element name xs) k k' h a = a

nodes_pruned : (keep : ℕ → Bool) (xs : Forest Kind) → AreNodes xs → AreNodes (pruned keep xs)
nodes_pruned keep none a = tt
nodes_pruned keep (node m x k r) a = elim (cases_Bool (keep m)) [
  | inl e ↦ rw e (node_below x k (pruned keep k) (λ z. ap (pruned keep) z) a.0, nodes_pruned keep k a.1, nodes_pruned keep r a.2)
  | inr e ↦ rw e (nodes_pruned keep r a.2)
]

-- a node whose children are edited can hold some, or has none after
bears : (f : Forest Kind → Forest Kind) (x : Kind) (k : Forest Kind) → ((holds x ≡ true) ⊎ (f none ≡ none)) → IsNode x k → IsNode x (f k)
bears f Root k h a = a
bears f (Text t) k h a = elim h [ inl e ↦ absurd (false≢true e) | inr e ↦ ap f a ∙ e ]
bears f (Element name xs) k h a = a

nodes_at : (p : ℕ) (f : Forest Kind → Forest Kind) (t : Forest Kind) → tally p t ≤ 1 → ((on p t ≡ true → holds (label_in Root p t) ≡ true) ⊎ (f none ≡ none)) → ((c : Forest Kind) → AreNodes c → AreNodes (f c)) → AreNodes t → AreNodes (at p f t)
nodes_at p f none o h g a = tt
nodes_at p f (node m x k r) o h g a = elim (cases_Bool (m == p)) [
  | inl e ↦ (
      let off : on p r ≡ false = tally_off p r (let z = rw e at o in omega arith) in
      let h' : (holds x ≡ true) ⊎ (f none ≡ none) = elim h [ inl y ↦ inl ((rw e at y) refl) | inr y ↦ inr y ] in
      rw (e, at_away p f r off) (bears f x k h' a.0, g k a.1, a.2))
  | inr e ↦ elim (cases_Bool (on p k)) [
    | inl i ↦ (
        let many = on_tally p k i in
        let off : on p r ≡ false = tally_off p r (let z = rw e at o in omega (arith, many)) in
        let h' : (on p k ≡ true → holds (label_in Root p k) ≡ true) ⊎ (f none ≡ none) = elim h [ inl y ↦ inl (λ b. (rw (e, i) at y) refl) | inr y ↦ inr y ] in
        rw (e, at_away p f r off) (node_below x k (at p f k) (λ z. ap (at p f) z) a.0, nodes_at p f k (let z = rw e at o in omega arith) h' g a.1, a.2))
    | inr i ↦ (
        let h' : (on p r ≡ true → holds (label_in Root p r) ≡ true) ⊎ (f none ≡ none) = elim h [ inl y ↦ inl (rw (e, i) at y) | inr y ↦ inr y ] in
        rw (e, at_away p f k i) (a.0, a.1, nodes_at p f r (let z = rw e at o in omega arith) h' g a.2))
  ]
]

nodes_relabelled : (n : ℕ) (lab : Kind) (t : Forest Kind) → tally n t ≤ 1 → ((k : Forest Kind) → IsNode (label_in Root n t) k → IsNode lab k) → AreNodes t → AreNodes (relabelled n lab t)
nodes_relabelled n lab none o h a = tt
nodes_relabelled n lab (node m x k r) o h a = elim (cases_Bool (m == n)) [
  | inl e ↦ (
      let offk : on n k ≡ false = tally_off n k (let z = rw e at o in omega arith) in
      let offr : on n r ≡ false = tally_off n r (let z = rw e at o in omega arith) in
      let h' = rw e at h in
      rw (e, relabelled_off n lab k offk, relabelled_off n lab r offr) (h' k a.0, a.1, a.2))
  | inr e ↦ elim (cases_Bool (on n k)) [
    | inl i ↦ (
        let many = on_tally n k i in
        let off : on n r ≡ false = tally_off n r (let z = rw e at o in omega (arith, many)) in
        let h' = rw (e, i) at h in
        rw (e, relabelled_off n lab r off) (node_below x k (relabelled n lab k) (λ z. ap (relabelled n lab) z) a.0, nodes_relabelled n lab k (let z = rw e at o in omega arith) h' a.1, a.2))
    | inr i ↦ (
        let h' = rw (e, i) at h in
        rw (e, relabelled_off n lab k i) (a.0, a.1, nodes_relabelled n lab r (let z = rw e at o in omega arith) h' a.2))
  ]
]

-- ---- attributes

named_others : (name m : List ℕ) (xs : List (List ℕ × List ℕ)) → named name xs ≡ false → named name (others m xs) ≡ false
named_others name m [] h = refl
named_others name m (a ∷ xs) h =
    let b = or_false (bytes_eq a.0 name) (named name xs) false (or_last (bytes_eq a.0 name) (named name xs) h) in
    elim (cases_Bool (bytes_eq a.0 m)) [
      | inl e ↦ rw e b.1
      | inr e ↦ rw (e, b.0) (named_others name m xs b.1)
    ]

distinct_others : (m : List ℕ) (xs : List (List ℕ × List ℕ)) → Distinct xs → Distinct (others m xs)
distinct_others m [] d = tt
distinct_others m (a ∷ xs) d = elim (cases_Bool (bytes_eq a.0 m)) [
  | inl e ↦ rw e d.1
  | inr e ↦ rw e (named_others a.0 m xs d.0, distinct_others m xs d.1)
]

-- the name that is taken out stands no more
gone_others : (m : List ℕ) (xs : List (List ℕ × List ℕ)) → Distinct xs → named m (others m xs) ≡ false
gone_others m [] d = refl
gone_others m (a ∷ xs) d = elim (cases_Bool (bytes_eq a.0 m)) [
  | inl e ↦ (let q : a.0 ≡ m = (bytes_eq-Decides a.0 m).0 e in rw e (ap (λ n. named n xs) (sym q) ∙ d.0))
  | inr e ↦ rw (e, e) (gone_others m xs d.1)
]

named_put : (i : ℕ) (n m v : List ℕ) (xs : List (List ℕ × List ℕ)) → bytes_eq m n ≡ false → named n xs ≡ false → named n (put_in i (m, v) xs) ≡ false
named_put zero n m v xs e h = rw e h
named_put (suc i) n m v [] e h = rw e refl
named_put (suc i) n m v (a ∷ xs) e h =
    let b = or_false (bytes_eq a.0 n) (named n xs) false (or_last (bytes_eq a.0 n) (named n xs) h) in
    rw b.0 (named_put i n m v xs e b.1)

pub other_way : (a b : List ℕ) → bytes_eq a b ≡ false → bytes_eq b a ≡ false
other_way a b h = elim (cases_Bool (bytes_eq b a)) [
  | inl e ↦ (let q : b ≡ a = (bytes_eq-Decides b a).0 e in absurd (false≢true (sym h ∙ (bytes_eq-Decides a b).1 (sym q))))
  | inr e ↦ e
]

distinct_put : (i : ℕ) (m v : List ℕ) (xs : List (List ℕ × List ℕ)) → named m xs ≡ false → Distinct xs → Distinct (put_in i (m, v) xs)
distinct_put zero m v xs h d = (h, d)
distinct_put (suc i) m v [] h d = (refl, tt)
distinct_put (suc i) m v (a ∷ xs) h d =
    let b = or_false (bytes_eq a.0 m) (named m xs) false (or_last (bytes_eq a.0 m) (named m xs) h) in
    (named_put i a.0 m v xs (other_way a.0 m b.0) d.0, distinct_put i m v xs b.1 d.1)

-- ---- trees

-- a tree whose nodes below the root are these
made : (b : Forest Kind) → ((j : ℕ) → tally j (node 0 Root b none) ≤ 1) → Low 1 b → AreNodes b → IsTree (node 0 Root b none)
made b o l a = record {
  rooted = record { below = b; is = refl };
  once = o;
  low = (let h = height_of 1 b (omega arith) l in omega (arith, h));
  nodes = a;
}

-- an edit of the children of one node
made_at : (p : ℕ) (f : Forest Kind → Forest Kind) (b : Forest Kind) →
    let t = node 0 Root b none in
    ((j : ℕ) → tally j t ≤ 1) → Low 1 b → AreNodes b → ((j : ℕ) → tally j (at p f t) ≤ 1) → ((c : Forest Kind) → Low (suc (depth p t)) c → Low (suc (depth p t)) (f c)) → (((on p b ≡ true → holds (label_in Root p b) ≡ true) ⊎ (f none ≡ none))) → ((c : Forest Kind) → AreNodes c → AreNodes (f c)) → IsTree (at p f t)
made_at p f b o l a o' h g e =
    let lows = low_at 0 p f (node 0 Root b none) (o p) (λ c z. (let q : 0 + depth p (node 0 Root b none) ≡ depth p (node 0 Root b none) = omega arith in let P : ℕ → Type 0 = λ j. Low (suc j) c → Low (suc j) (f c) in subst P (sym q) (h c) z)) (omega arith, l, tt) in
    made (if 0 == p then f b else at p f b) o' lows.1 (elim (cases_Bool (0 == p)) [
      | inl z ↦ rw z (e b a)
      | inr z ↦ rw z (nodes_at p f b (let q = o p in let w = rw z at q in omega arith) g e a)
    ])

pub done_if : (c : Bool) (x u : Forest Kind) (w : OpRefusal) → (if c then Done x else Refused w) ≡ Done u → (c ≡ true) × (x ≡ u)
done_if true x u w e = (refl, cc)
done_if false x u w e = cc

pub if_done : (c : Bool) (a : Answer) (u : Forest Kind) (w : OpRefusal) → (if c then a else Refused w) ≡ Done u → (c ≡ true) × (a ≡ Done u)
if_done true a u w e = (refl, e)
if_done false a u w e = cc

pub found_none : (why : ℕ → OpRefusal) (o : Option ℕ) (a : Answer) (u : Forest Kind) → unless_found why o a ≡ Done u → (o ≡ None) × (a ≡ Done u)
found_none why None a u e = (refl, e)
found_none why (Some n) a u e = cc

pub not_zero : (n : ℕ) → not (n == 0) ≡ true → (0 == n) ≡ false
not_zero n h = elim (cases_Bool (0 == n)) [
  | inl e ↦ (let q : 0 ≡ n = eqb-true 0 n e in absurd (false≢true (ap (λ b. not b) (sym (eq-eqb n 0 (sym q))) ∙ h)))
  | inr e ↦ e
]

below_holds : (p : ℕ) (b : Forest Kind) → tally p (node 0 Root b none) ≤ 1 → on p (node 0 Root b none) ≡ true → holds (label_in Root p (node 0 Root b none)) ≡ true → on p b ≡ true → holds (label_in Root p b) ≡ true
below_holds p b o there h e = elim (cases_Bool (0 == p)) [
  | inl z ↦ (let many = on_tally p b e in let q = rw z at o in absurd (omega (arith, many, q)))
  | inr z ↦ rw (z, e) at h
]

abbrev once_tree : Forest Kind → Type 0
once_tree t = (j : ℕ) → tally j t ≤ 1

removed_tree : (n : ℕ) (b : Forest Kind) → once_tree (node 0 Root b none) → Low 1 b → AreNodes b → (0 == n) ≡ false → IsTree (pruned (λ m. not (m == n)) (node 0 Root b none))
removed_tree n b o l a e =
    let keep : ℕ → Bool = λ m. not (m == n) in
    let z : keep 0 ≡ true = ap (λ c. not c) e in
    let t = made (pruned keep b) (λ j. (let i = tally_pruned keep j (node 0 Root b none) in let q = o j in let y = rw z at i in omega arith)) (low_pruned 1 keep b l) (nodes_pruned keep b a) in
    rw z t

inserted_tree : (p i n : ℕ) (x : Kind) (k b : Forest Kind) → let t = node 0 Root b none in let s = node n x k none in
    once_tree t → Low 1 b → AreNodes b → AreNodes s → on p t ≡ true → holds (label_in Root p t) ≡ true → first_used s s t ≡ None → first_deep (suc (depth p t)) s ≡ None → IsTree (at p (put i s) t)
inserted_tree p i n x k b o l a c there h used deep =
    let t = node 0 Root b none in
    let s = node n x k none in
    let low = low_brought (suc (depth p t)) s deep in
    let many : once_tree (at p (put i s) t) = λ j. (
    let sum = tally_inserted j p i s t (o p) there in
    let q = o j in
    elim (cases_Bool (on j s)) [
      | inl e ↦ (let y = unused s s t used j e in let off = off_tally j t y.0 in let w = y.1 in omega (arith, sum, off, w))
      | inr e ↦ (let off = off_tally j s e in omega (arith, sum, off, q))
    ]) in
    made_at p (put i s) b o l a many
    (λ d z. low_put (suc (depth p t)) i s d low z)
    (inl (λ e. below_holds p b (o p) there h e))
    (λ d z. nodes_put i s d c z)

none_moved : (n i : ℕ) → moved {A = Kind} n i none ≡ none
none_moved n zero = refl
none_moved n (suc i) = refl

moved_tree : (n i : ℕ) (b : Forest Kind) → let t = node 0 Root b none in once_tree t → Low 1 b → AreNodes b → on n t ≡ true → (0 == n) ≡ false → IsTree (at (parent n t) (moved n i) t)
moved_tree n i b o l a there e =
    let t = node 0 Root b none in
    let p = parent n t in
    let sits = has_parent n t o there (rw e refl) in
    let many : once_tree (at p (moved n i) t) = λ j. (let sum = tally_kept j p n i t (o p) sits.1 in let q = o j in omega (arith, sum, q)) in
    made_at p (moved n i) b o l a many
    (λ d z. low_put (suc (depth p t)) i (only n d) (without n d) (low_only (suc (depth p t)) n d z) (low_without (suc (depth p t)) n d z))
    (inr (none_moved n i))
    (λ d z. nodes_put i (only n d) (without n d) (nodes_only n d z) (nodes_without n d z))

told_tree : (n : ℕ) (lab : Kind) (b : Forest Kind) → let t = node 0 Root b none in once_tree t → Low 1 b → AreNodes b → (0 == n) ≡ false → ((k : Forest Kind) → IsNode (label_in Root n b) k → IsNode lab k) → IsTree (relabelled n lab t)
told_tree n lab b o l a e h =
    let t = made (relabelled n lab b)
    (λ j. (let i = tally_relabelled j n lab b in let q = o j in omega (arith, i, q)))
    (low_relabelled 1 n lab b l)
    (nodes_relabelled n lab b (let q = o n in let y = rw e at q in omega arith) h a) in
    rw e t

pub text_done : (n : ℕ) (v : List ℕ) (x : Kind) (now u : Forest Kind) → do_text n v x now ≡ Done u → (s : List ℕ) × (x ≡ Text s) × (relabelled n (Text v) now ≡ u)
text_done n v Root now u h = cc
text_done n v (Text s) now u h = (s, refl, cc)
text_done n v (Element name xs) now u h = cc

pub attr_done : (n i : ℕ) (name value : List ℕ) (x : Kind) (now u : Forest Kind) → do_attr n i name value x now ≡ Done u → (element : List ℕ) × (xs : List (List ℕ × List ℕ)) × (x ≡ Element element xs) × (relabelled n (Element element (put_in i (name, value) (others name xs))) now ≡ u)
attr_done n i name value Root now u h = cc
attr_done n i name value (Text s) now u h = cc
attr_done n i name value (Element element xs) now u h =
    let new : Kind = Element element (put_in i (name, value) (others name xs)) in
    let d = done_if (leb i (length (others name xs))) (relabelled n new now) u (NoSuchPlace i) h in
    (element, xs, refl, d.1)

pub unattr_done : (n : ℕ) (name : List ℕ) (x : Kind) (now u : Forest Kind) → do_unattr n name x now ≡ Done u → (element : List ℕ) × (xs : List (List ℕ × List ℕ)) × (x ≡ Element element xs) × (relabelled n (Element element (others name xs)) now ≡ u)
unattr_done n name Root now u h = cc
unattr_done n name (Text s) now u h = cc
unattr_done n name (Element element xs) now u h = (element, xs, refl, cc)

-- what isn't the root's label is that of a node below it
pub below_label : (n : ℕ) (b : Forest Kind) (x : Kind) → label_in Root n (node 0 Root b none) ≡ x → (x ≡ Root → ⊥) → ((0 == n) ≡ false) × (label_in Root n b ≡ x)
below_label n b x h other = elim (cases_Bool (0 == n)) [
  | inl e ↦ absurd (other (sym (rw e at h)))
  | inr e ↦ elim (cases_Bool (on n b)) [
    | inl f ↦ (e, rw (e, f) at h)
    | inr f ↦ absurd (other (sym (rw (e, f) at h)))
  ]
]

as_node : (x y : Kind) (k : Forest Kind) → x ≡ y → IsNode x k → IsNode y k
as_node x y k e a = (let P : Kind → Type 0 = λ z. IsNode z k in subst P e a)

-- what an operation makes of a tree
kept_tree : (op : Op) (b u : Forest Kind) → let t = node 0 Root b none in once_tree t → Low 1 b → AreNodes b → Brings op → do_op op t ≡ Done u → IsTree u
kept_tree (OpRemove n) b u o l a c h =
    let t = node 0 Root b none in
    let d = done_if (below_root n t) (pruned (λ m. not (m == n)) t) u (NoSuchNode n) h in
    subst IsTree d.1 (removed_tree n b o l a (not_zero n (and_parts (on n t) (not (n == 0)) d.0).1))
kept_tree (OpInsert p i n x k) b u o l a c h =
    let t = node 0 Root b none in
    let s = node n x k none in
    let d1 = if_done (on p t && holds (label_in Root p t)) _ u (NoSuchNode p) h in
    let d2 = if_done (leb i (count (kids p t))) _ u (NoSuchPlace i) d1.1 in
    let d3 = found_none NumberUsed (first_used s s t) _ u d2.1 in
    let d4 = found_none TooDeep (first_deep (suc (depth p t)) s) (Done (at p (put i s) t)) u d3.1 in
    let there = and_parts (on p t) (holds (label_in Root p t)) d1.0 in
    let e : at p (put i s) t ≡ u = (let z = d4.1 in cc) in
    subst IsTree e (inserted_tree p i n x k b o l a c there.0 there.1 d3.0 d4.0)
kept_tree (OpMove n i) b u o l a c h =
    let t = node 0 Root b none in
    let d1 = if_done (below_root n t) _ u (NoSuchNode n) h in
    let d2 = done_if (ltb i (count (kids (parent n t) t))) (at (parent n t) (moved n i) t) u (NoSuchPlace i) d1.1 in
    let there = and_parts (on n t) (not (n == 0)) d1.0 in
    subst IsTree d2.1 (moved_tree n i b o l a there.0 (not_zero n there.1))
kept_tree (OpText n v) b u o l a c h =
    let t = node 0 Root b none in
    let d = text_done n v (label_in Root n t) t u h in
    let w = below_label n b (Text d.0) d.1 (λ z. cc) in
    subst IsTree d.2 (told_tree n (Text v) b o l a w.0 (λ k y. as_node (label_in Root n b) (Text d.0) k w.1 y))
kept_tree (OpAttr n i name value) b u o l a c h =
    let t = node 0 Root b none in
    let d = attr_done n i name value (label_in Root n t) t u h in
    let w = below_label n b (Element d.0 d.1) d.2 (λ z. cc) in
    let new : Kind = Element d.0 (put_in i (name, value) (others name d.1)) in
    subst IsTree d.3 (told_tree n new b o l a w.0 (λ k y. (
    let q = as_node (label_in Root n b) (Element d.0 d.1) k w.1 y in
    distinct_put i name value (others name d.1) (gone_others name d.1 q) (distinct_others name d.1 q))))
kept_tree (OpUnattr n name) b u o l a c h =
    let t = node 0 Root b none in
    let d = unattr_done n name (label_in Root n t) t u h in
    let w = below_label n b (Element d.0 d.1) d.2 (λ z. cc) in
    subst IsTree d.3 (told_tree n (Element d.0 (others name d.1)) b o l a w.0 (λ k y. distinct_others name d.1 (as_node (label_in Root n b) (Element d.0 d.1) k w.1 y)))

-- a tree stays a tree
pub tree_after : (op : Op) (t u : Forest Kind) → IsTree t → Brings op → do_op op t ≡ Done u → IsTree u
tree_after op t u w c h =
    let b = w.rooted.below in
    let e = w.rooted.is in
    let l = low_of 0 (node 0 Root b none) (let q = ap height e in let z = w.low in omega (arith, q, z)) in
    kept_tree op b u (λ j. (let q = ap (tally j) e in let z = w.once j in omega (arith, q, z))) l.1 w.nodes c (ap (do_op op) (sym e) ∙ h)
