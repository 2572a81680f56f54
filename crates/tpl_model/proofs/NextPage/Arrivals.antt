-- What comes to the page, and its numbers.
use Rattle.std.proofs.Common.{◌≡◌, ℕ, suc, ◌+◌, ◌≤◌, ◌==◌, Bool, true, false, List, [], ◌∷◌, ◌++◌, length, append_assoc, length-append, refl, sym, ap, ◌∙◌, eqb-true, eq-eqb, inl, inr, arith}
use Rattle.std.specs.List.{flat_map}
use Rattle.std.proofs.lemmas.Bool.{cases_Bool, false≢true}
use Rattle.page_model.specs.Edits.{listed, taken}
use Rattle.page_model.specs.Forest.{Forest, none, node, on, tally, keys, kids, pruned, numbered}
use Rattle.page_model.specs.Labels.{Look}
use Rattle.page_model.specs.Pages.{NumberedPage, IsPage, IsShape, SameOrigin, ascending_by, carried, new_order, newcomers, number_of, page_shape, those}
use Rattle.page_model.proofs.Shared.{on_tally, all_new, brought_new, from_some, new_kids, Knows, from_those, in_keys, knows, still_on}
use Rattle.tpl_model.specs.Sources.{in_order}
use Rattle.tpl_model.specs.PageUpdates.Differences.{often}
use Rattle.tpl_model.proofs.PageUpdates.Numbers.{number_law}
use Rattle.tpl_model.specs.NextPage.Arrivals.{OrderLaw, SerialLaw}
use Rattle.tpl_model.proofs.NextPage.Marks.{flat_ascending}
use Rattle.tpl_model.proofs.Orders.{unlisted_often, listed_often, often_both, often_listed, often_taken, often_those}
use Rattle.tpl_model.proofs.Numbered.{often_keys}

-- ---- and comes once

flat_both : (f : ℕ → List ℕ) (i : ℕ) (xs ys : List ℕ) → often i (flat_map f (xs ++ ys)) ≡ often i (flat_map f xs) + often i (flat_map f ys)
flat_both f i [] ys = omega arith
flat_both f i (z ∷ zs) ys =
    let a = often_both i (f z) (flat_map f (zs ++ ys)) in
    let b = often_both i (f z) (flat_map f zs) in
    let c = flat_both f i zs ys in
    omega (arith, a, b, c)

-- what comes below kept nodes, and what comes beside these trees, is of these trees
brings_split : (kept : ℕ → Bool) (children : ℕ → Forest Look) (j : ℕ) (t : Forest Look) → Knows children t →
    often j (newcomers kept t) + often j (flat_map (λ a. newcomers kept (children a)) (keys (pruned kept t))) ≤ tally j t
brings_split kept children j none k = omega arith
brings_split kept children j (node m x k r) kn =
    let f : ℕ → List ℕ = λ a. newcomers kept (children a) in
    let i = brings_split kept children j k kn.1 in
    let l = brings_split kept children j r kn.2 in
    let ks = keys (pruned kept k) in
    let rs = keys (pruned kept r) in
    elim (cases_Bool (kept m)) [
      | inl e ↦ (
          let own : often j (f m) ≡ often j (newcomers kept k) = ap (λ z. often j (newcomers kept z)) kn.0 in
          let c = often_both j (f m) (flat_map f (ks ++ rs)) in
          let d = flat_both f j ks rs in
          rw e (omega (arith, i, l, own, c, d)))
      | inr e ↦ (
          let a = often_both j (m ∷ keys k) (newcomers kept r) in
          let b = often_keys j k in
          rw e (omega (arith, l, a, b)))
    ]

flat_taken : (f : ℕ → List ℕ) (j a : ℕ) (xs : List ℕ) → listed a xs ≡ true → often j (flat_map f xs) ≡ often j (f a) + often j (flat_map f (taken a xs))
flat_taken f j a [] h = absurd (false≢true h)
flat_taken f j a (x ∷ xs) h = elim (cases_Bool (x == a)) [
  | inl e ↦ (
      let q : x ≡ a = eqb-true x a e in
      let s : often j (f x) ≡ often j (f a) = ap (λ z. often j (f z)) q in
      let b = often_both j (f x) (flat_map f xs) in
      rw e (omega (arith, s, b)))
  | inr e ↦ (
      let i = flat_taken f j a xs (rw e at h) in
      let b = often_both j (f x) (flat_map f xs) in
      let c = often_both j (f x) (flat_map f (taken a xs)) in
      rw e (omega (arith, i, b, c)))
]

-- fewer say no more
flat_less : (f : ℕ → List ℕ) (j : ℕ) (ms ks : List ℕ) → ((a : ℕ) → often a ms ≤ often a ks) → often j (flat_map f ms) ≤ often j (flat_map f ks)
flat_less f j [] ks h = omega arith
flat_less f j (m ∷ ms) ks h =
    let own : often m (m ∷ ms) ≡ 1 + often m ms = (let e = eq-eqb m m refl in rw e refl) in
    let u = h m in
    let l : listed m ks ≡ true = often_listed m ks (omega (arith, own, u)) in
    let less : (a : ℕ) → often a ms ≤ often a (taken m ks) = λ a. (let t = often_taken a m ks l in let v = h a in omega (arith, t, v)) in
    let i = flat_less f j ms (taken m ks) less in
    let b = often_both j (f m) (flat_map f ms) in
    let t = flat_taken f j m ks l in
    omega (arith, i, b, t)

not_there : (a : ℕ) (xs : List ℕ) → often a xs ≡ 0 → listed a xs ≡ false
not_there a xs h = elim (cases_Bool (listed a xs)) [ inl e ↦ (let i = listed_often a xs e in absurd (omega (arith, i, h))) | inr e ↦ e ]

once_each : (p : NumberedPage) (shape : Forest Look) → IsPage p → IsShape shape → SameOrigin (page_shape p) shape → (j : ℕ) → often j (new_order p shape) ≤ 1
once_each p shape q s o j =
    let before = page_shape p in
    let kept : ℕ → Bool = λ a. on a before in
    let f : ℕ → List ℕ = λ a. newcomers kept (kids a shape) in
    let ms = those (λ a. on a shape) (keys before) in
    let ks = keys (pruned kept shape) in
    let few : (a : ℕ) → often a ms ≤ often a ks = λ a. (
    let c = often_those (λ b. on b shape) a (keys before) in
    let d = often_keys a before in
    let e = often_keys a (pruned kept shape) in
    let l = q.once a in
    elim (cases_Bool (on a shape)) [
      | inl g ↦ (
          let c' = rw g at c in
          elim (cases_Bool (on a before)) [
            | inl h ↦ (let u = on_tally a (pruned kept shape) (still_on kept a shape (all_new p shape q s o) g h) in omega (arith, c', d, e, l, u))
            | inr h ↦ elim (cases_Bool (listed a ms)) [
              | inl k ↦ (let m = from_those (λ b. on b shape) a (keys before) k in absurd (false≢true (sym h ∙ (sym (in_keys a before) ∙ m.0))))
              | inr k ↦ (let z = unlisted_often a ms k in omega (arith, z))
            ]
          ])
      | inr g ↦ (let c' = rw g at c in omega (arith, c'))
    ]) in
    let u = flat_ascending (number_of p) f j ms in
    let v = flat_less f j ms ks few in
    let w = brings_split kept (λ a. kids a shape) j shape (knows shape s.once) in
    let x = s.once j in
    omega (arith, u, v, w, x)

pub order_law : OrderLaw
order_law p shape q s o = record {
  new = λ a h.
      let before = page_shape p in
      let kept : ℕ → Bool = λ b. on b before in
      let i = from_some (λ b. newcomers kept (kids b shape)) a (ascending_by (number_of p) (those (λ b. on b shape) (keys before))) h in
      brought_new kept (kids i.0 shape) a (new_kids kept i.0 shape (all_new p shape q s o)) i.1;
  once = once_each p shape q s o;
}

-- ---- in document order

serial : (num : ℕ → ℕ) (order : List ℕ) (next : ℕ) → ((a : ℕ) (pre post : List ℕ) → order ≡ pre ++ a ∷ post → num a ≡ next + length pre) →
    (part : Forest Look) (pre post : List ℕ) → order ≡ pre ++ (keys part ++ post) → numbered num part ≡ in_order (next + length pre) part
serial num order next each none pre post e = refl
serial num order next each (node a x k r) pre post e =
    let ks = keys k in
    let rs = keys r in
    let own : num a ≡ next + length pre = each a pre ((ks ++ rs) ++ post) e in
    let all : order ≡ pre ++ a ∷ (ks ++ (rs ++ post)) = e ∙ ap (λ z. pre ++ a ∷ z) (append_assoc ks rs post) in
    let inside = serial num order next each k (pre ++ a ∷ []) (rs ++ post) (all ∙ sym (append_assoc pre (a ∷ []) (ks ++ (rs ++ post)))) in
    let later = serial num order next each r (pre ++ a ∷ ks) post (all ∙ sym (append_assoc pre (a ∷ ks) (rs ++ post))) in
    let l = length-append pre (a ∷ []) in
    let n = length-append pre (a ∷ ks) in
    let i : next + length (pre ++ a ∷ []) ≡ suc (next + length pre) = omega (arith, l) in
    let j : next + length (pre ++ a ∷ ks) ≡ suc (next + length pre) + length ks = omega (arith, n) in
    let u : numbered num k ≡ in_order (suc (next + length pre)) k = inside ∙ ap (λ z. in_order z k) i in
    let v : numbered num r ≡ in_order (suc (next + length pre) + length ks) r = later ∙ ap (λ z. in_order z r) j in
    (λ t. node (own t) x (u t) (v t))

pub serial_law : SerialLaw
serial_law p shape part pre post q s o e =
    let x = order_law p shape q s o in
    serial (carried p shape) (new_order p shape) p.next
    (λ a xs ys h. (
    let c = x.once a in
    let d : often a (new_order p shape) ≡ often a (xs ++ a ∷ ys) = ap (often a) h in
    let f = often_both a xs (a ∷ ys) in
    let g : often a (a ∷ ys) ≡ 1 + often a ys = (let i = eq-eqb a a refl in rw i refl) in
    let none_before : listed a xs ≡ false = not_there a xs (omega (arith, c, d, f, g)) in
    let there : listed a (new_order p shape) ≡ true = often_listed a (new_order p shape) (omega (arith, d, f, g)) in
    (number_law p shape).new a xs ys (x.new a there) h none_before))
    part pre post e
