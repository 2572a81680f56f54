-- Trees by other keys, and how often a key stands in them.
use Rattle.std.proofs.Common.{◌≡◌, ℕ, ◌==◌, true, ◌||◌, refl, ap, ◌∙◌, arith, inl, inr, List, [], ◌∷◌, ◌++◌, map}
use Rattle.std.proofs.lemmas.Bool.{cases_Bool}
use Rattle.page_model.specs.Forest.{Forest, none, node, on, tally, keys, kids, numbered}
use Rattle.page_model.specs.Labels.{Look, shown}
use Rattle.page_model.specs.Edits.{listed, siblings}
use Rattle.page_model.proofs.Shared.{has_listed, has_on, on_kids, on_num, on_shown, or_left, or_right, same_num, self_on}
use Rattle.tpl_model.specs.PageUpdates.Differences.{often}
use Rattle.tpl_model.proofs.Orders.{often_both}

pub map_both : (num : ℕ → ℕ) (xs ys : List ℕ) → map num (xs ++ ys) ≡ map num xs ++ map num ys
map_both num [] ys = refl
map_both num (x ∷ xs) ys = ap (λ z. num x ∷ z) (map_both num xs ys)

pub on_below : {A : Type 0} (a m : ℕ) (x : A) (k r : Forest A) → on a k ≡ true → on a (node m x k r) ≡ true
on_below a m x k r h = or_right (m == a) (on a k || on a r) (or_left (on a k) (on a r) h)

pub on_beside : {A : Type 0} (a m : ℕ) (x : A) (k r : Forest A) → on a r ≡ true → on a (node m x k r) ≡ true
on_beside a m x k r h = or_right (m == a) (on a k || on a r) (or_right (on a k) (on a r) h)

pub siblings_num : (num : ℕ → ℕ) (t : Forest Look) → siblings (shown (numbered num t)) ≡ map num (siblings t)
siblings_num num none = refl
siblings_num num (node m x k r) = ap (λ z. num m ∷ z) (siblings_num num r)

kids_shown : (n : ℕ) (t : Forest Look) → kids n (shown t) ≡ shown (kids n t)
kids_shown n none = refl
kids_shown n (node m x k r) = elim (cases_Bool (m == n)) [
  | inl e ↦ rw e refl
  | inr e ↦ elim (cases_Bool (on n k)) [
    | inl f ↦ rw (e, on_shown n k, f) (kids_shown n k)
    | inr f ↦ rw (e, on_shown n k, f) (kids_shown n r)
  ]
]

kids_numbered : {A : Type 0} (num : ℕ → ℕ) (a : ℕ) (t : Forest A) → ((b : ℕ) → on b t ≡ true → num a ≡ num b → a ≡ b) → kids (num a) (numbered num t) ≡ numbered num (kids a t)
kids_numbered num a none h = refl
kids_numbered num a (node m x k r) h =
    let s = same_num num a m (h m (self_on m x k r)) in
    let hk : (b : ℕ) → on b k ≡ true → num a ≡ num b → a ≡ b = λ b e. h b (on_below b m x k r e) in
    let o = on_num num a k hk in
    let ik = kids_numbered num a k hk in
    let ir = kids_numbered num a r (λ b e. h b (on_beside b m x k r e)) in
    elim (cases_Bool (m == a)) [
      | inl e ↦ rw (s, e) refl
      | inr e ↦ elim (cases_Bool (on a k)) [
        | inl f ↦ rw (s, e, o, f) ik
        | inr f ↦ rw (s, e, o, f) ir
      ]
    ]

pub kids_num : (num : ℕ → ℕ) (a : ℕ) (t : Forest Look) → ((b : ℕ) → on b t ≡ true → num a ≡ num b → a ≡ b) → kids (num a) (shown (numbered num t)) ≡ shown (numbered num (kids a t))
kids_num num a t h = kids_shown (num a) (numbered num t) ∙ ap shown (kids_numbered num a t h)

pub often_keys : {A : Type 0} (j : ℕ) (t : Forest A) → often j (keys t) ≡ tally j t
often_keys j none = refl
often_keys j (node m x k r) = (let a = often_both j (keys k) (keys r) in let b = often_keys j k in let c = often_keys j r in omega arith)

pub child_on : {A : Type 0} (a j : ℕ) (t : Forest A) → listed j (siblings (kids a t)) ≡ true → on j t ≡ true
child_on a j t h = on_kids a j t (has_on j (kids a t) (has_listed j (kids a t) ∙ h))
