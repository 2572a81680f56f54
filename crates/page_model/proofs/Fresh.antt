-- The order of the new addresses has each of them once.
use Rattle.std.proofs.Common.{◌≡◌, ℕ, zero, suc, ◌+◌, ◌-◌, ◌<◌, ◌≤◌, ◌==◌, Bool, true, false, refl, sym, ap, ◌∙◌, arith, leb, eqb-true, eq-eqb, inl, inr, List, [], ◌∷◌, ◌++◌, length}
use Rattle.std.specs.List.{flat_map}
use Rattle.std.proofs.lemmas.Bool.{cases_Bool, false≢true, or_cases, or_left, or_right}
use Rattle.page_model.specs.Forest.{Forest, none, node, on, one, tally, keys, kids}
use Rattle.page_model.specs.Labels.{Look}
use Rattle.page_model.specs.Edits.{listed}
use Rattle.page_model.specs.Pages.{NumberedPage, looks, page_shape, number_of, into_by, ascending_by, newcomers, those, new_order, IsPage, IsShape, SameOrigin, place_in, renumbered}
use Rattle.page_model.proofs.Facts.{Once, Knows}
use Rattle.page_model.proofs.Everywhere.{not_same}
use Rattle.page_model.proofs.Tally.{tally_on}
use Rattle.page_model.proofs.Linked.{knows}
use Rattle.page_model.proofs.Orders.{in_keys, once_keys}
use Rattle.page_model.proofs.Removals.{in_both}
use Rattle.page_model.proofs.Newcomers.{in_into_by, in_ascending_by, from_those}
use Rattle.page_model.proofs.Whole.{over, over_none, over_one}
use Rattle.page_model.proofs.Updates.{parent_at, new_number, number_after}
use Rattle.page_model.proofs.Gone.{New, all_gone}

-- a sum over a list
abbrev pub measure : (ℕ → ℕ) → List ℕ → ℕ
measure v [] = 0
measure v (n ∷ ns) = v n + measure v ns

measure_both : (v : ℕ → ℕ) (xs ys : List ℕ) → measure v (xs ++ ys) ≡ measure v xs + measure v ys
measure_both v [] ys = omega arith
measure_both v (x ∷ xs) ys = omega (arith, measure_both v xs ys)

measure_flat : (v : ℕ → ℕ) (f : ℕ → List ℕ) (ps : List ℕ) → measure v (flat_map f ps) ≡ measure (λ p. measure v (f p)) ps
measure_flat v f [] = refl
measure_flat v f (p ∷ ps) = measure_both v (f p) (flat_map f ps) ∙ ap (λ i. measure v (f p) + i) (measure_flat v f ps)

fits : {A : Type 0} (v : ℕ → ℕ) (kept : ℕ → Bool) (look : ℕ → Forest A) (t : Forest A) → Knows look t → New kept t → over kept (λ m. measure v (newcomers kept (look m))) [] t + measure v (newcomers kept t) ≤ measure v (keys t)
fits v kept look none kn w = omega arith
fits v kept look (node m x k r) kn w =
    let ik = fits v kept look k kn.1 w.1 in
    let ir = fits v kept look r kn.2 w.2 in
    let all = measure_both v (keys k) (keys r) in
    elim (cases_Bool (kept m)) [
      | inl a ↦ (let e = ap (λ t. measure v (newcomers kept t)) kn.0 in rw a (omega (arith, ik, ir, e, all)))
      | inr a ↦ (
          let z = over_none kept (λ i. measure v (newcomers kept (look i))) [] k (w.0 a) in
          let b = measure_both v (keys k) (newcomers kept r) in
          rw a (omega (arith, ir, z, b, all)))
    ]

sum_le : {A : Type 0} (kept : ℕ → Bool) (w : ℕ → ℕ) (ps es : List ℕ) (t : Forest A) → Once ps → ((p : ℕ) → listed p ps ≡ true → (kept p ≡ true) × (on p t ≡ true) × (listed p es ≡ false)) → measure w ps ≤ over kept w es t
sum_le kept w [] es t o h = omega arith
sum_le kept w (p ∷ ps) es t o h =
    let y = h p (or_left (p == p) (listed p ps) (eq-eqb p p refl)) in
    let i = sum_le kept w ps (p ∷ es) t o.1 (λ q e. (let z = h q (or_right (p == q) (listed q ps) e) in (z.0, z.1, rw (not_same p q ps o.0 e) z.2))) in
    let a = over_one kept w p es t y.0 y.2 y.1 in
    omega (arith, i, a)

-- ---- the parents

once_into : (num : ℕ → ℕ) (a : ℕ) (ns : List ℕ) → listed a ns ≡ false → Once ns → Once (into_by num a ns)
once_into num a [] h o = (refl, tt)
once_into num a (n ∷ ns) h o =
    let b : (n == a) ≡ false = elim (cases_Bool (n == a)) [ inl e ↦ absurd (false≢true (sym (rw e at h))) | inr e ↦ e ] in
    let c : listed a ns ≡ false = rw b at h in
    elim (cases_Bool (leb (num a) (num n))) [
      | inl e ↦ rw e (h, o)
      | inr e ↦ (
          let d : (a == n) ≡ false = elim (cases_Bool (a == n)) [ inl f ↦ (let q : a ≡ n = eqb-true a n f in absurd (false≢true (sym b ∙ eq-eqb n a (sym q)))) | inr f ↦ f ] in
          rw e (in_into_by num n a ns ∙ (rw (d, o.0) refl), once_into num a ns c o.1))
    ]

once_ascending_by : (num : ℕ → ℕ) (ns : List ℕ) → Once ns → Once (ascending_by num ns)
once_ascending_by num [] o = tt
once_ascending_by num (n ∷ ns) o = once_into num n (ascending_by num ns) (in_ascending_by num n ns ∙ o.0) (once_ascending_by num ns o.1)

once_those : (test : ℕ → Bool) (ns : List ℕ) → Once ns → Once (those test ns)
once_those test [] o = tt
once_those test (n ∷ ns) o = elim (cases_Bool (test n)) [
  | inl e ↦ rw e (elim (cases_Bool (listed n (those test ns))) [ inl f ↦ absurd (false≢true (sym o.0 ∙ (from_those test n ns f).0)) | inr f ↦ f ], once_those test ns o.1)
  | inr e ↦ rw e (once_those test ns o.1)
]

-- ---- new nodes

-- below a new node all is new
pub all_new : (old : NumberedPage) (shape : Forest Look) → IsPage old → IsShape shape → SameOrigin (page_shape old) shape → New (λ a. on a (page_shape old)) shape
all_new old shape p s o =
    let before = page_shape old in
    all_gone shape before s.once (λ a h. parent_at a before (looks p.rooted.below) (ap looks p.rooted.is) p.once h) (λ a h k. sym (o.parents a k h)) shape (λ j e. e)
    (knows shape s.once)

order_le : (v : ℕ → ℕ) (old : NumberedPage) (shape : Forest Look) → IsPage old → IsShape shape → SameOrigin (page_shape old) shape → measure v (new_order old shape) ≤ measure v (keys shape)
order_le v old shape p s o =
    let kept : ℕ → Bool = λ a. on a (page_shape old) in
    let look : ℕ → Forest Look = λ m. kids m shape in
    let w : ℕ → ℕ = λ m. measure v (newcomers kept (look m)) in
    let qs = those (λ a. on a shape) (keys (page_shape old)) in
    let ps = ascending_by (number_of old) qs in
    let kn = knows shape s.once in
    let a = measure_flat v (λ m. newcomers kept (look m)) ps in
    let b = sum_le kept w ps [] shape (once_ascending_by (number_of old) qs (once_those (λ a. on a shape) (keys (page_shape old)) (once_keys (page_shape old) p.once)))
    (λ q e. (
    let i = from_those (λ a. on a shape) q (keys (page_shape old)) (sym (in_ascending_by (number_of old) q qs) ∙ e) in
    (sym (in_keys q (page_shape old)) ∙ i.0, i.1, refl))) in
    let c = fits v kept look shape kn (all_new old shape p s o) in
    omega (arith, a, b, c)

-- how often a number is in a list
abbrev pub often : ℕ → List ℕ → ℕ
often j ns = measure (λ n. one (n == j)) ns

often_keys : {A : Type 0} (j : ℕ) (t : Forest A) → often j (keys t) ≡ tally j t
often_keys j none = refl
often_keys j (node m x k r) = (let a = measure_both (λ n. one (n == j)) (keys k) (keys r) in let b = often_keys j k in let c = often_keys j r in omega arith)

lengths : (ns : List ℕ) → measure (λ n. 1) ns ≡ length ns
lengths [] = refl
lengths (n ∷ ns) = omega (arith, lengths ns)

-- no address stands twice in the order of the new ones
pub order_once : (old : NumberedPage) (shape : Forest Look) → IsPage old → IsShape shape → SameOrigin (page_shape old) shape → (a : ℕ) → often a (new_order old shape) ≤ 1
order_once old shape p s o a = (let i = order_le (λ n. one (n == a)) old shape p s o in let j = often_keys a shape in let k = s.once a in omega arith)

-- there are at most as many as nodes
pub order_short : (old : NumberedPage) (shape : Forest Look) → IsPage old → IsShape shape → SameOrigin (page_shape old) shape → length (new_order old shape) ≤ length (keys shape)
order_short old shape p s o = (let i = order_le (λ n. 1) old shape p s o in let j = lengths (new_order old shape) in let k = lengths (keys shape) in omega arith)

-- ---- no gaps

-- what a new node brings is new
pub brought_new : {A : Type 0} (kept : ℕ → Bool) (t : Forest A) (j : ℕ) → New kept t → listed j (newcomers kept t) ≡ true → kept j ≡ false
brought_new kept none j w h = absurd (false≢true h)
brought_new kept (node m x k r) j w h = elim (cases_Bool (kept m)) [
  | inl e ↦ brought_new kept r j w.2 (rw e at h)
  | inr e ↦ (
      let b : listed j (m ∷ keys k ++ newcomers kept r) ≡ true = rw e at h in
      elim (or_cases (m == j) (listed j (keys k ++ newcomers kept r)) b) [
        | inl f ↦ (let q : m ≡ j = eqb-true m j f in ap kept (sym q) ∙ e)
        | inr f ↦ elim (or_cases (listed j (keys k)) (listed j (newcomers kept r)) (sym (in_both j (keys k) (newcomers kept r)) ∙ f)) [
          | inl g ↦ w.0 e j (sym (in_keys j k) ∙ g)
          | inr g ↦ brought_new kept r j w.2 g
        ]
      ])
]

pub new_kids : {A : Type 0} (kept : ℕ → Bool) (p : ℕ) (t : Forest A) → New kept t → New kept (kids p t)
new_kids kept p none w = tt
new_kids kept p (node m x k r) w = elim (cases_Bool (m == p)) [
  | inl e ↦ rw e w.1
  | inr e ↦ elim (cases_Bool (on p k)) [ inl f ↦ rw (e, f) (new_kids kept p k w.1) | inr f ↦ rw (e, f) (new_kids kept p r w.2) ]
]

pub from_some : (f : ℕ → List ℕ) (j : ℕ) (ps : List ℕ) → listed j (flat_map f ps) ≡ true → (p : ℕ) × (listed j (f p) ≡ true)
from_some f j [] h = absurd (false≢true h)
from_some f j (p ∷ ps) h = elim (or_cases (listed j (f p)) (listed j (flat_map f ps)) (sym (in_both j (f p) (flat_map f ps)) ∙ h)) [
  | inl e ↦ (p, e)
  | inr e ↦ from_some f j ps e
]

order_new : (old : NumberedPage) (shape : Forest Look) → IsPage old → IsShape shape → SameOrigin (page_shape old) shape → (j : ℕ) → listed j (new_order old shape) ≡ true → on j (page_shape old) ≡ false
order_new old shape p s o j h =
    let kept : ℕ → Bool = λ a. on a (page_shape old) in
    let look : ℕ → List ℕ = λ m. newcomers kept (kids m shape) in
    let q = from_some look j (ascending_by (number_of old) (those (λ a. on a shape) (keys (page_shape old)))) h in
    brought_new kept (kids q.0 shape) j (new_kids kept q.0 shape (all_new old shape p s o)) q.1

listed_often : (a : ℕ) (ns : List ℕ) → listed a ns ≡ true → 1 ≤ often a ns
listed_often a [] h = absurd (false≢true h)
listed_often a (n ∷ ns) h = elim (cases_Bool (n == a)) [
  | inl e ↦ rw e (omega arith)
  | inr e ↦ (let i = listed_often a ns (rw e at h) in rw e (omega (arith, i)))
]

once_of : (ns : List ℕ) → ((a : ℕ) → often a ns ≤ 1) → Once ns
once_of [] h = tt
once_of (n ∷ ns) h =
    let here : (n == n) ≡ true = eq-eqb n n refl in
    let m = rw here at (h n) in (
      elim (cases_Bool (listed n ns)) [ inl e ↦ (let i = listed_often n ns e in absurd (omega (arith, i, m))) | inr e ↦ e ],
      once_of ns (λ a. (let i = h a in omega (arith, i))),
    )

-- the one that stands at a place
stands_at : (i : ℕ) (ns : List ℕ) → Once ns → i < length ns → (a : ℕ) × (listed a ns ≡ true) × (place_in a ns ≡ i)
stands_at i [] o h = absurd (omega arith)
stands_at zero (n ∷ ns) o h = (let e : (n == n) ≡ true = eq-eqb n n refl in (n, rw e refl, rw e refl))
stands_at (suc i) (n ∷ ns) o h =
    let j = stands_at i ns o.1 (omega arith) in
    let e = not_same n j.0 ns o.0 j.1 in
    (j.0, rw e j.1, rw e (ap suc j.2))

-- each number from the old page's next one up to the new page's is that of a new node
pub no_gaps : (old : NumberedPage) (shape : Forest Look) → IsPage old → IsShape shape → SameOrigin (page_shape old) shape → (n : ℕ) → old.next ≤ n → n < old.next + length (new_order old shape) → (a : ℕ) × (on a shape ≡ true) × (on a (page_shape old) ≡ false) × (number_of (renumbered old shape) a ≡ n)
no_gaps old shape p s o n h g =
    let order = new_order old shape in
    let i = stands_at (n - old.next) order (once_of order (order_once old shape p s o)) (omega arith) in
    let a = i.0 in
    let new = order_new old shape p s o a i.1 in
    let many = listed_often a order i.1 in
    let all = order_le (λ m. one (m == a)) old shape p s o in
    let there : on a shape ≡ true = tally_on a shape (let j = often_keys a shape in omega (arith, many, all, j)) in
    let number = number_after old shape a there ∙ new_number old shape a new in
    (a, there, new, (let e = i.2 in omega (arith, number, e)))
