-- What a kept node says leads to its new label.
use Rattle.std.proofs.Common.{◌≡◌, ℕ, suc, ◌≤◌, ◌==◌, true, false, refl, sym, ap, ◌∙◌, arith, leb, inl, inr, List, [], ◌∷◌, ◌++◌, length, append_assoc, length-append, Option, Some, None}
use Rattle.std.specs.Str.{bytes_eq}
use Rattle.std.proofs.lemmas.Slice.Eq.{bytes_eq-Decides}
use Rattle.std.proofs.lemmas.Bool.{cases_Bool, true≢false, false≢true, le-leb, or_left, or_right}
use Rattle.page_model.specs.Forest.{Forest, none, node, on, tally, label_in, relabelled}
use Rattle.page_model.specs.Labels.{Root, Text, Element, Kind, Look, with_value, present, seen, named, Distinct, DistinctNames, SameNames, Alike}
use Rattle.page_model.specs.Replay.{Op, OpAttr, OpUnattr, Done, others, put_in, do_attr, do_unattr, do_op, then_on, replay}
use Rattle.page_model.specs.Edits.{line_edits, attribute_edits, look_edits}
use Rattle.page_model.proofs.Everywhere.{or_false}
use Rattle.page_model.proofs.Tally.{on_tally, tally_off}

-- ---- one node with another label

pub relabelled_off : {A : Type 0} (n : ℕ) (t : A) (xs : Forest A) → on n xs ≡ false → relabelled n t xs ≡ xs
relabelled_off n t none h = refl
relabelled_off n t (node m x k r) h =
    let a = or_false (m == n) (on n k) (on n r) h in
    rw (a.0, relabelled_off n t k a.1, relabelled_off n t r a.2) refl

pub relabelled_same : {A : Type 0} (d : A) (n : ℕ) (t : A) (xs : Forest A) → on n xs ≡ true → tally n xs ≤ 1 → label_in d n xs ≡ t → relabelled n t xs ≡ xs
relabelled_same d n t none o l e = refl
relabelled_same d n t (node m x k r) o l e = elim (cases_Bool (m == n)) [
  | inl f ↦ (
      let l' = rw f at l in
      let e' : x ≡ t = rw f at e in
      let zk : on n k ≡ false = tally_off n k (omega arith) in
      let zr : on n r ≡ false = tally_off n r (omega arith) in
      rw (f, relabelled_off n t k zk, relabelled_off n t r zr) (ap (λ z. node m z k r) (sym e')))
  | inr f ↦ elim (cases_Bool (on n k)) [
    | inl g ↦ (
        let u = on_tally n k g in
        let zr : on n r ≡ false = tally_off n r (omega (arith, l)) in
        rw (f, relabelled_off n t r zr) (ap (λ z. node m x z r) (relabelled_same d n t k g (omega (arith, l)) (rw (f, g) at e))))
    | inr g ↦ rw (f, relabelled_off n t k g) (ap (node m x k) (relabelled_same d n t r (rw (f, g) at o) (omega (arith, l)) (rw (f, g) at e)))
  ]
]

pub on_relabelled : {A : Type 0} (j n : ℕ) (t : A) (xs : Forest A) → on j (relabelled n t xs) ≡ on j xs
on_relabelled j n t none = refl
on_relabelled j n t (node m x k r) = rw (on_relabelled j n t k, on_relabelled j n t r) refl

pub tally_relabelled : {A : Type 0} (j n : ℕ) (t : A) (xs : Forest A) → tally j (relabelled n t xs) ≡ tally j xs
tally_relabelled j n t none = refl
tally_relabelled j n t (node m x k r) = rw (tally_relabelled j n t k, tally_relabelled j n t r) refl

label_relabelled : {A : Type 0} (d : A) (n : ℕ) (t : A) (xs : Forest A) → on n xs ≡ true → label_in d n (relabelled n t xs) ≡ t
label_relabelled d n t none o = absurd (false≢true o)
label_relabelled d n t (node m x k r) o = elim (cases_Bool (m == n)) [
  | inl e ↦ rw e refl
  | inr e ↦ elim (cases_Bool (on n k)) [
    | inl f ↦ rw (e, on_relabelled n n t k, f) (label_relabelled d n t k f)
    | inr f ↦ rw (e, on_relabelled n n t k, f) (label_relabelled d n t r (rw (e, f) at o))
  ]
]

relabelled_twice : {A : Type 0} (n : ℕ) (s t : A) (xs : Forest A) → relabelled n t (relabelled n s xs) ≡ relabelled n t xs
relabelled_twice n s t none = refl
relabelled_twice n s t (node m x k r) = elim (cases_Bool (m == n)) [
  | inl e ↦ rw (e, relabelled_twice n s t k, relabelled_twice n s t r) refl
  | inr e ↦ rw (e, relabelled_twice n s t k, relabelled_twice n s t r) refl
]

-- ---- attributes

pub same_name : (n : List ℕ) → bytes_eq n n ≡ true
same_name n = (bytes_eq-Decides n n).1 refl

others_missing : {V : Type 0} (name : List ℕ) (xs : List (List ℕ × V)) → named name xs ≡ false → others name xs ≡ xs
others_missing name [] h = refl
others_missing name (a ∷ xs) h = elim (cases_Bool (bytes_eq a.0 name)) [
  | inl e ↦ absurd (true≢false (rw e at h))
  | inr e ↦ rw e (ap (λ zs. a ∷ zs) (others_missing name xs (rw e at h)))
]

others_after : {V : Type 0} (name : List ℕ) (xs ys : List (List ℕ × V)) → named name xs ≡ false → others name (xs ++ ys) ≡ (xs ++ others name ys)
others_after name [] ys h = refl
others_after name (a ∷ xs) ys h = elim (cases_Bool (bytes_eq a.0 name)) [
  | inl e ↦ absurd (true≢false (rw e at h))
  | inr e ↦ rw e (ap (λ zs. a ∷ zs) (others_after name xs ys (rw e at h)))
]

put_after : {V : Type 0} (a : List ℕ × V) (xs ys : List (List ℕ × V)) → put_in (length xs) a (xs ++ ys) ≡ (xs ++ a ∷ ys)
put_after a [] ys = refl
put_after a (x ∷ xs) ys = ap (λ zs. x ∷ zs) (put_after a xs ys)

named_with : (name m : List ℕ) (o : Option (List ℕ)) (xs : List (List ℕ × List ℕ)) → bytes_eq m name ≡ false → named name xs ≡ false → named name (with_value m o xs) ≡ false
named_with name m None xs d h = h
named_with name m (Some v) xs d h = rw d h

pub not_present : (name : List ℕ) (xs : List (List ℕ × Option (List ℕ))) → named name xs ≡ false → named name (present xs) ≡ false
not_present name [] h = refl
not_present name (a ∷ xs) h = elim (cases_Bool (bytes_eq a.0 name)) [
  | inl e ↦ absurd (true≢false (rw e at h))
  | inr e ↦ named_with name a.0 a.1 (present xs) e (not_present name xs (rw e at h))
]

named_both : {V : Type 0} (name : List ℕ) (xs ys : List (List ℕ × V)) → named name xs ≡ false → named name ys ≡ false → named name (xs ++ ys) ≡ false
named_both name [] ys h g = g
named_both name (a ∷ xs) ys h g = elim (cases_Bool (bytes_eq a.0 name)) [
  | inl e ↦ absurd (true≢false (rw e at h))
  | inr e ↦ rw e (named_both name xs ys (rw e at h) g)
]

other_named : {V : Type 0} (m name : List ℕ) (xs : List (List ℕ × V)) → named m xs ≡ false → named name xs ≡ true → bytes_eq m name ≡ false
other_named m name xs z h = elim (cases_Bool (bytes_eq m name)) [
  | inl e ↦ (let q : m ≡ name = (bytes_eq-Decides m name).0 e in absurd (false≢true (sym z ∙ ap (λ i. named i xs) q ∙ h)))
  | inr e ↦ e
]

named_old : {V : Type 0} (name : List ℕ) (xs ys : List (List ℕ × V)) → SameNames xs ys → named name xs ≡ named name ys
named_old name [] [] s = refl
named_old name [] (b ∷ ys) s = absurd s
named_old name (a ∷ xs) [] s = absurd s
named_old name (a ∷ xs) (b ∷ ys) s = rw (s.0, named_old name xs ys s.1) refl

longer : {V : Type 0} (a : V) (xs : List V) → length (xs ++ a ∷ []) ≡ suc (length xs)
longer a xs = omega (arith, length-append xs (a ∷ []))

attr_done : (n : ℕ) (e name v : List ℕ) (xs before all : List (List ℕ × List ℕ)) (t : Forest Kind) → label_in Root n t ≡ Element e all → others name all ≡ (xs ++ before) → do_op (OpAttr n (length xs) name v) t ≡ Done (relabelled n (Element e (xs ++ (name, v) ∷ before)) t)
attr_done n e name v xs before all t l h =
    let room : leb (length xs) (length (xs ++ before)) ≡ true = le-leb _ _ (omega (arith, length-append xs before)) in
    ap (λ z. do_attr n (length xs) name v z t) l ∙ (rw (h, room) (ap (λ z. Done (relabelled n (Element e z) t)) (put_after (name, v) xs before)))

-- what the later lines lead to, from each tree whose node has these attributes
abbrev Leads : ℕ → List ℕ → List Op → List (List ℕ × List ℕ) → List (List ℕ × List ℕ) → Type 0
Leads n e later before after = (s : Forest Kind) → on n s ≡ true → tally n s ≤ 1 → label_in Root n s ≡ Element e before → replay later s ≡ Done (relabelled n (Element e after) s)

-- the tree after one operation on the node, and what the later lines make of it
led_on : (n : ℕ) (e : List ℕ) (o : Op) (later : List Op) (mid after : List (List ℕ × List ℕ)) (t : Forest Kind) → on n t ≡ true → tally n t ≤ 1 → do_op o t ≡ Done (relabelled n (Element e mid) t) → Leads n e later mid after → replay (o ∷ later) t ≡ Done (relabelled n (Element e after) t)
led_on n e o later mid after t on_t l d h =
    let s = relabelled n (Element e mid) t in
    ap (λ z. then_on z (replay later)) d
    ∙ (h s (on_relabelled n n (Element e mid) t ∙ on_t) (rw (tally_relabelled n n (Element e mid) t) l) (label_relabelled Root n (Element e mid) t on_t)
    ∙ ap Done (relabelled_twice n (Element e mid) (Element e after) t))

one_line : (n : ℕ) (e name : List ℕ) (o w : Option (List ℕ)) (xs before after : List (List ℕ × List ℕ)) (later : ℕ → List Op) (t : Forest Kind) → named name xs ≡ false → named name before ≡ false → Leads n e (later (length xs)) (xs ++ before) (xs ++ after) → ((v : List ℕ) → Leads n e (later (suc (length xs))) (xs ++ (name, v) ∷ before) (xs ++ (name, v) ∷ after)) → on n t ≡ true → tally n t ≤ 1 → label_in Root n t ≡ Element e (xs ++ with_value name o before) → replay (line_edits n (length xs) name o w later) t ≡ Done (relabelled n (Element e (xs ++ with_value name w after)) t)
one_line n e name None None xs before after later t h g f k o l q = f t o l q
one_line n e name (Some u) None xs before after later t h g f k o l q =
    let a : others name (xs ++ (name, u) ∷ before) ≡ (xs ++ before) = others_after name xs ((name, u) ∷ before) h ∙ (rw (same_name name) refl) in
    let d : do_op (OpUnattr n name) t ≡ Done (relabelled n (Element e (xs ++ before)) t) = ap (λ z. do_unattr n name z t) q ∙ ap (λ z. Done (relabelled n (Element e z) t)) a in
    led_on n e (OpUnattr n name) (later (length xs)) (xs ++ before) (xs ++ after) t o l d f
one_line n e name None (Some v) xs before after later t h g f k o l q =
    let a : others name (xs ++ before) ≡ (xs ++ before) = others_after name xs before h ∙ ap (λ zs. xs ++ zs) (others_missing name before g) in
    led_on n e (OpAttr n (length xs) name v) (later (suc (length xs))) (xs ++ (name, v) ∷ before) (xs ++ (name, v) ∷ after) t o l (attr_done n e name v xs before (xs ++ before) t q a) (k v)
one_line n e name (Some u) (Some v) xs before after later t h g f k o l q = elim (cases_Bool (bytes_eq u v)) [
  | inl s ↦ (let p : u ≡ v = (bytes_eq-Decides u v).0 s in rw s (k v t o l (q ∙ ap (λ z. Element e (xs ++ (name, z) ∷ before)) p)))
  | inr s ↦ (
      let a : others name (xs ++ (name, u) ∷ before) ≡ (xs ++ before) = others_after name xs ((name, u) ∷ before) h ∙ (rw (same_name name) refl) in
      rw s (led_on n e (OpAttr n (length xs) name v) (later (suc (length xs))) (xs ++ (name, v) ∷ before) (xs ++ (name, v) ∷ after) t o l (attr_done n e name v xs before (xs ++ (name, u) ∷ before) t q a) (k v)))
]

lines_told : (n : ℕ) (e : List ℕ) (old new : List (List ℕ × Option (List ℕ))) (xs : List (List ℕ × List ℕ)) (t : Forest Kind) → SameNames old new → Distinct new → ((m : List ℕ) → named m new ≡ true → named m xs ≡ false) → on n t ≡ true → tally n t ≤ 1 → label_in Root n t ≡ Element e (xs ++ present old) → replay (attribute_edits n old new (length xs)) t ≡ Done (relabelled n (Element e (xs ++ present new)) t)
lines_told n e [] [] xs t s d h o l q = ap Done (sym (relabelled_same Root n (Element e (xs ++ [])) t o l q))
lines_told n e [] (b ∷ new) xs t s d h o l q = absurd s
lines_told n e (a ∷ old) [] xs t s d h o l q = absurd s
lines_told n e (a ∷ old) (b ∷ new) xs t s d h o l q =
    let hb = h b.0 (or_left (bytes_eq b.0 b.0) (named b.0 new) (same_name b.0)) in
    let q' : label_in Root n t ≡ Element e (xs ++ with_value b.0 a.1 (present old)) = q ∙ ap (λ z. Element e (xs ++ with_value z a.1 (present old))) s.0 in
    one_line n e b.0 a.1 b.1 xs (present old) (present new) (attribute_edits n old new) t hb (not_present b.0 old (named_old b.0 old new s.1 ∙ d.0))
    (λ u o1 l1 q1. lines_told n e old new xs u s.1 d.1 (λ m i. h m (or_right (bytes_eq b.0 m) (named m new) i)) o1 l1 q1)
    (λ v u o1 l1 q1. (
    let i = lines_told n e old new (xs ++ (b.0, v) ∷ []) u s.1 d.1
    (λ m j. named_both m xs ((b.0, v) ∷ []) (h m (or_right (bytes_eq b.0 m) (named m new) j)) (rw (other_named b.0 m new d.0 j) refl))
    o1 l1 (q1 ∙ ap (Element e) (sym (append_assoc xs ((b.0, v) ∷ []) (present old)))) in
    let i1 = rw (longer (b.0, v) xs) at i in
    i1 ∙ ap (λ z. Done (relabelled n (Element e z) u)) (append_assoc xs ((b.0, v) ∷ []) (present new))))
    o l q'

-- a kept node's operations, on each tree where it has its old label
pub told_leads : (n : ℕ) (a b : Look) (t : Forest Kind) → Alike a b → DistinctNames b → on n t ≡ true → tally n t ≤ 1 → label_in Root n t ≡ seen a → replay (look_edits n a b) t ≡ Done (relabelled n (seen b) t)
told_leads n Root Root t s d o l q = ap Done (sym (relabelled_same Root n Root t o l q))
told_leads n (Text x) (Text y) t s d o l q = elim (cases_Bool (bytes_eq x y)) [
  | inl e ↦ (let p : x ≡ y = (bytes_eq-Decides x y).0 e in rw e (ap Done (sym (relabelled_same Root n (Text y) t o l (q ∙ ap Text p)))))
  | inr e ↦ rw (e, q) refl
]
told_leads n (Element m old) (Element m' new) t s d o l q =
    lines_told n m old new [] t s.1 d (λ j i. refl) o l q ∙ ap (λ z. Done (relabelled n (Element z (present new)) t)) s.0
told_leads n Root (Text y) t s d o l q = absurd s
told_leads n Root (Element m new) t s d o l q = absurd s
told_leads n (Text x) Root t s d o l q = absurd s
told_leads n (Text x) (Element m new) t s d o l q = absurd s
told_leads n (Element m old) Root t s d o l q = absurd s
told_leads n (Element m old) (Text y) t s d o l q = absurd s
