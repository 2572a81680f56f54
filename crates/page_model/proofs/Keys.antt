-- The same trees with other keys.
use Rattle.std.proofs.Common.{◌≡◌, ℕ, suc, ◌≤◌, ◌==◌, true, false, ◌||◌, refl, sym, ap, ◌∙◌, arith, eqb-true, eq-eqb, inl, inr}
use Rattle.std.proofs.lemmas.Bool.{cases_Bool, false≢true, or_cases, or_left, or_right}
use Rattle.page_model.specs.Forest.{Forest, none, node, count, has, on, tally, parent, label_in, height, numbered}
use Rattle.page_model.proofs.Tally.{off_tally, on_tally}
use Rattle.page_model.proofs.Linked.{self_on}

pub on_numbered : {A : Type 0} (num : ℕ → ℕ) (j : ℕ) (t : Forest A) → on j (numbered num t) ≡ true → (a : ℕ) × (on a t ≡ true) × (num a ≡ j)
on_numbered num j none h = absurd (false≢true h)
on_numbered num j (node m x k r) h = elim (or_cases (num m == j) (on j (numbered num k) || on j (numbered num r)) h) [
  | inl e ↦ (m, self_on m x k r, eqb-true (num m) j e)
  | inr e ↦ elim (or_cases (on j (numbered num k)) (on j (numbered num r)) e) [
    | inl f ↦ (let i = on_numbered num j k f in (i.0, or_right (m == i.0) (on i.0 k || on i.0 r) (or_left (on i.0 k) (on i.0 r) i.1), i.2))
    | inr f ↦ (let i = on_numbered num j r f in (i.0, or_right (m == i.0) (on i.0 k || on i.0 r) (or_right (on i.0 k) (on i.0 r) i.1), i.2))
  ]
]

pub once_numbered : {A : Type 0} (num : ℕ → ℕ) (t : Forest A) → ((a : ℕ) → tally a t ≤ 1) → ((a b : ℕ) → on a t ≡ true → on b t ≡ true → num a ≡ num b → a ≡ b) → (j : ℕ) → tally j (numbered num t) ≤ 1
once_numbered num none l d j = omega arith
once_numbered num (node m x k r) l d j =
    let up_k : (a : ℕ) → on a k ≡ true → on a (node m x k r) ≡ true = λ a e. or_right (m == a) (on a k || on a r) (or_left (on a k) (on a r) e) in
    let up_r : (a : ℕ) → on a r ≡ true → on a (node m x k r) ≡ true = λ a e. or_right (m == a) (on a k || on a r) (or_right (on a k) (on a r) e) in
    let ik = once_numbered num k (λ a. (let i = l a in omega arith)) (λ a b e f. d a b (up_k a e) (up_k b f)) j in
    let ir = once_numbered num r (λ a. (let i = l a in omega arith)) (λ a b e f. d a b (up_r a e) (up_r b f)) j in
    elim (cases_Bool (num m == j)) [
      | inl e ↦ (
          let q : num m ≡ j = eqb-true (num m) j e in
          let here : (m == m) ≡ true = eq-eqb m m refl in
          let lm = rw here at (l m) in
          let zk : on j (numbered num k) ≡ false = elim (cases_Bool (on j (numbered num k))) [
            | inl f ↦ (let i = on_numbered num j k f in let s = d i.0 m (up_k i.0 i.1) (self_on m x k r) (i.2 ∙ sym q) in let o : on m k ≡ true = ap (λ z. on z k) (sym s) ∙ i.1 in let u = on_tally m k o in absurd (omega arith))
            | inr f ↦ f
          ] in
          let zr : on j (numbered num r) ≡ false = elim (cases_Bool (on j (numbered num r))) [
            | inl f ↦ (let i = on_numbered num j r f in let s = d i.0 m (up_r i.0 i.1) (self_on m x k r) (i.2 ∙ sym q) in let o : on m r ≡ true = ap (λ z. on z r) (sym s) ∙ i.1 in let u = on_tally m r o in absurd (omega arith))
            | inr f ↦ f
          ] in
          rw (e, off_tally j (numbered num k) zk, off_tally j (numbered num r) zr) (omega arith))
      | inr e ↦ elim (cases_Bool (on j (numbered num k))) [
        | inl f ↦ (
            let i = on_numbered num j k f in
            let zr : on j (numbered num r) ≡ false = elim (cases_Bool (on j (numbered num r))) [
              | inl g ↦ (let h = on_numbered num j r g in let s = d i.0 h.0 (up_k i.0 i.1) (up_r h.0 h.1) (i.2 ∙ sym h.2) in let o : on i.0 r ≡ true = ap (λ z. on z r) s ∙ h.1 in let u = on_tally i.0 r o in let v = on_tally i.0 k i.1 in let w = l i.0 in absurd (omega arith))
              | inr g ↦ g
            ] in
            rw (e, off_tally j (numbered num r) zr) (omega (arith, ik)))
        | inr f ↦ rw (e, off_tally j (numbered num k) f) (omega (arith, ir))
      ]
    ]

pub same_num : (num : ℕ → ℕ) (a m : ℕ) → (num a ≡ num m → a ≡ m) → (num m == num a) ≡ (m == a)
same_num num a m d = elim (cases_Bool (num m == num a)) [
  | inl e ↦ (let q = d (sym (eqb-true (num m) (num a) e)) in e ∙ sym (eq-eqb m a (sym q)))
  | inr e ↦ e ∙ sym (elim (cases_Bool (m == a)) [
    | inl f ↦ (let q : m ≡ a = eqb-true m a f in absurd (false≢true (sym e ∙ eq-eqb (num m) (num a) (ap num q))))
    | inr f ↦ f
  ])
]

pub has_num : {A : Type 0} (num : ℕ → ℕ) (a : ℕ) (t : Forest A) → ((b : ℕ) → on b t ≡ true → num a ≡ num b → a ≡ b) → has (num a) (numbered num t) ≡ has a t
has_num num a none d = refl
has_num num a (node m x k r) d =
    let s = same_num num a m (d m (self_on m x k r)) in
    let i = has_num num a r (λ b e. d b (or_right (m == b) (on b k || on b r) (or_right (on b k) (on b r) e))) in
    rw (s, i) refl

pub on_num : {A : Type 0} (num : ℕ → ℕ) (a : ℕ) (t : Forest A) → ((b : ℕ) → on b t ≡ true → num a ≡ num b → a ≡ b) → on (num a) (numbered num t) ≡ on a t
on_num num a none d = refl
on_num num a (node m x k r) d =
    let s = same_num num a m (d m (self_on m x k r)) in
    let i = on_num num a k (λ b e. d b (or_right (m == b) (on b k || on b r) (or_left (on b k) (on b r) e))) in
    let j = on_num num a r (λ b e. d b (or_right (m == b) (on b k || on b r) (or_right (on b k) (on b r) e))) in
    rw (s, i, j) refl

pub parent_num : {A : Type 0} (num : ℕ → ℕ) (a : ℕ) (t : Forest A) → num 0 ≡ 0 → ((b : ℕ) → on b t ≡ true → num a ≡ num b → a ≡ b) → parent (num a) (numbered num t) ≡ num (parent a t)
parent_num num a none z d = sym z
parent_num num a (node m x k r) z d =
    let dk : (b : ℕ) → on b k ≡ true → num a ≡ num b → a ≡ b = λ b e. d b (or_right (m == b) (on b k || on b r) (or_left (on b k) (on b r) e)) in
    let dr : (b : ℕ) → on b r ≡ true → num a ≡ num b → a ≡ b = λ b e. d b (or_right (m == b) (on b k || on b r) (or_right (on b k) (on b r) e)) in
    let ik = parent_num num a k z dk in
    let ir = parent_num num a r z dr in
    rw (has_num num a k dk, on_num num a k dk) (elim (cases_Bool (has a k)) [
      | inl e ↦ rw e refl
      | inr e ↦ elim (cases_Bool (on a k)) [ inl f ↦ rw (e, f) ik | inr f ↦ rw (e, f) ir ]
    ])

pub label_num : {A : Type 0} (d : A) (num : ℕ → ℕ) (a : ℕ) (t : Forest A) → ((b : ℕ) → on b t ≡ true → num a ≡ num b → a ≡ b) → label_in d (num a) (numbered num t) ≡ label_in d a t
label_num d num a none h = refl
label_num d num a (node m x k r) h =
    let s = same_num num a m (h m (self_on m x k r)) in
    let hk : (b : ℕ) → on b k ≡ true → num a ≡ num b → a ≡ b = λ b e. h b (or_right (m == b) (on b k || on b r) (or_left (on b k) (on b r) e)) in
    let ik = label_num d num a k hk in
    let ir = label_num d num a r (λ b e. h b (or_right (m == b) (on b k || on b r) (or_right (on b k) (on b r) e))) in
    rw (s, on_num num a k hk, ik, ir) refl

pub height_num : {A : Type 0} (num : ℕ → ℕ) (t : Forest A) → height (numbered num t) ≡ height t
height_num num none = refl
height_num num (node m x k r) = rw (height_num num k, height_num num r) refl

pub count_num : {A : Type 0} (num : ℕ → ℕ) (t : Forest A) → count (numbered num t) ≡ count t
count_num num none = refl
count_num num (node m x k r) = ap suc (count_num num r)
