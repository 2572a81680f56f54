-- How often keys stand in trees, and edits of one node's children.
use Rattle.std.proofs.Common.{◌≡◌, ℕ, ◌+◌, ◌≤◌, ◌==◌, true, false, refl, ap, arith, eqb-true, inl, inr}
use Rattle.std.proofs.lemmas.Bool.{cases_Bool, false≢true, or_right}
use Rattle.page_model.specs.Forest.{Forest, none, node, has, on, at, one, tally, kids, parent}
use Rattle.page_model.proofs.Everywhere.{or_false, at_away}

abbrev top : {A : Type 0} → ℕ → Forest A → ℕ
top n none = 0
top n (node m x k r) = one (m == n) + top n r

abbrev low : {A : Type 0} → ℕ → Forest A → ℕ
low n none = 0
low n (node m x k r) = tally n k + low n r

pub has_on : {A : Type 0} (n : ℕ) (t : Forest A) → has n t ≡ true → on n t ≡ true
has_on n none h = h
has_on n (node m x k r) h = elim (cases_Bool (m == n)) [
  | inl e ↦ rw e refl
  | inr e ↦ rw e (or_right (on n k) (on n r) (has_on n r (rw e at h)))
]

pub tally_parts : {A : Type 0} (n : ℕ) (t : Forest A) → tally n t ≡ top n t + low n t
tally_parts n none = refl
tally_parts n (node m x k r) = omega (arith, tally_parts n r)

pub has_top : {A : Type 0} (n : ℕ) (t : Forest A) → has n t ≡ true → 1 ≤ top n t
has_top n none h = absurd (false≢true h)
has_top n (node m x k r) h = elim (cases_Bool (m == n)) [
  | inl e ↦ rw e (omega arith)
  | inr e ↦ (let i = has_top n r (rw e at h) in omega (arith, i))
]

pub off_tally : {A : Type 0} (n : ℕ) (t : Forest A) → on n t ≡ false → tally n t ≡ 0
off_tally n none h = refl
off_tally n (node m x k r) h =
    let a = or_false (m == n) (on n k) (on n r) h in
    rw (a.0, off_tally n k a.1, off_tally n r a.2) refl

pub on_tally : {A : Type 0} (n : ℕ) (t : Forest A) → on n t ≡ true → 1 ≤ tally n t
on_tally n none h = absurd (false≢true h)
on_tally n (node m x k r) h = elim (cases_Bool (m == n)) [
  | inl e ↦ rw e (omega arith)
  | inr e ↦ elim (cases_Bool (on n k)) [
    | inl f ↦ (let i = on_tally n k f in omega (arith, i))
    | inr f ↦ (let i = on_tally n r (rw (e, f) at h) in omega (arith, i))
  ]
]

pub tally_off : {A : Type 0} (n : ℕ) (t : Forest A) → tally n t ≡ 0 → on n t ≡ false
tally_off n t h = elim (cases_Bool (on n t)) [ inl e ↦ (let i = on_tally n t e in absurd (omega arith)) | inr e ↦ e ]

pub tally_on : {A : Type 0} (n : ℕ) (t : Forest A) → 1 ≤ tally n t → on n t ≡ true
tally_on n t h = elim (cases_Bool (on n t)) [ inl e ↦ e | inr e ↦ (let i = off_tally n t e in absurd (omega arith)) ]

pub kids_low : {A : Type 0} (p n : ℕ) (t : Forest A) → on p t ≡ true → has n (kids p t) ≡ true → 1 ≤ low n t
kids_low p n none o h = absurd (false≢true o)
kids_low p n (node m x k r) o h = elim (cases_Bool (m == p)) [
  | inl e ↦ (let i = has_top n k (rw e at h) in let j = tally_parts n k in omega arith)
  | inr e ↦ elim (cases_Bool (on p k)) [
    | inl f ↦ (let i = kids_low p n k f (rw (e, f) at h) in let j = tally_parts n k in omega arith)
    | inr f ↦ (let i = kids_low p n r (rw (e, f) at o) (rw (e, f) at h) in omega arith)
  ]
]

pub top_has : {A : Type 0} (n : ℕ) (t : Forest A) → top n t ≡ 0 → has n t ≡ false
top_has n t h = elim (cases_Bool (has n t)) [ inl e ↦ (let i = has_top n t e in absurd (omega arith)) | inr e ↦ e ]

pub parent_is : {A : Type 0} (p n : ℕ) (t : Forest A) → tally n t ≤ 1 → on p t ≡ true → has n (kids p t) ≡ true → parent n t ≡ p
parent_is p n none l o h = absurd (false≢true o)
parent_is p n (node m x k r) l o h = elim (cases_Bool (m == p)) [
  | inl e ↦ rw (rw e at h) (eqb-true m p e)
  | inr e ↦ elim (cases_Bool (on p k)) [
    | inl f ↦ (
        let h' = rw (e, f) at h in
        let i = kids_low p n k f h' in
        let j = tally_parts n k in
        let t0 : has n k ≡ false = top_has n k (omega arith) in
        let t1 : on n k ≡ true = tally_on n k (omega arith) in
        rw (t0, t1) (parent_is p n k (omega arith) f h'))
    | inr f ↦ (
        let h' = rw (e, f) at h in
        let o' = rw (e, f) at o in
        let i = kids_low p n r o' h' in
        let j = tally_parts n r in
        let q = tally_parts n k in
        let t0 : has n k ≡ false = top_has n k (omega arith) in
        let t1 : on n k ≡ false = tally_off n k (omega arith) in
        rw (t0, t1) (parent_is p n r (omega arith) o' h'))
  ]
]

-- ---- one node's children

pub at_at : {A : Type 0} (p : ℕ) (f g : Forest A → Forest A) (t : Forest A) → at p f (at p g t) ≡ at p (λ k. f (g k)) t
at_at p f g none = refl
at_at p f g (node m x k r) = elim (cases_Bool (m == p)) [
  | inl e ↦ rw (e, at_at p f g r) refl
  | inr e ↦ rw (e, at_at p f g k, at_at p f g r) refl
]

pub at_id : {A : Type 0} (p : ℕ) (t : Forest A) → at p (λ k. k) t ≡ t
at_id p none = refl
at_id p (node m x k r) = elim (cases_Bool (m == p)) [
  | inl e ↦ rw (e, at_id p r) refl
  | inr e ↦ rw (e, at_id p k, at_id p r) refl
]

pub on_at : {A : Type 0} (p : ℕ) (f : Forest A → Forest A) (t : Forest A) → on p (at p f t) ≡ on p t
on_at p f none = refl
on_at p f (node m x k r) = elim (cases_Bool (m == p)) [
  | inl e ↦ rw e refl
  | inr e ↦ rw (e, on_at p f k, on_at p f r) refl
]

pub kids_at : {A : Type 0} (p : ℕ) (f : Forest A → Forest A) (t : Forest A) → on p t ≡ true → kids p (at p f t) ≡ f (kids p t)
kids_at p f none o = absurd (false≢true o)
kids_at p f (node m x k r) o = elim (cases_Bool (m == p)) [
  | inl e ↦ rw e refl
  | inr e ↦ elim (cases_Bool (on p k)) [
    | inl g ↦ rw (e, on_at p f k, g) (kids_at p f k g)
    | inr g ↦ rw (e, on_at p f k, g) (kids_at p f r (rw (e, g) at o))
  ]
]

at_known : {A : Type 0} (p : ℕ) (f : Forest A → Forest A) (c t : Forest A) → kids p t ≡ c → tally p t ≤ 1 → at p f t ≡ at p (λ _. f c) t
at_known p f c none d l = refl
at_known p f c (node m x k r) d l = elim (cases_Bool (m == p)) [
  | inl e ↦ (
      let l' = rw e at l in
      let d' : k ≡ c = rw e at d in
      let z : on p r ≡ false = tally_off p r (omega arith) in
      rw (e, at_away p f r z, at_away p (λ _. f c) r z) (ap (λ q. node m x (f q) r) d'))
  | inr e ↦ elim (cases_Bool (on p k)) [
    | inl g ↦ (
        let i = on_tally p k g in
        let z : on p r ≡ false = tally_off p r (omega arith) in
        rw (e, at_away p f r z, at_away p (λ _. f c) r z) (ap (λ q. node m x q r) (at_known p f c k (rw (e, g) at d) (omega arith))))
    | inr g ↦ rw (e, at_away p f k g, at_away p (λ _. f c) k g) (ap (node m x k) (at_known p f c r (rw (e, g) at d) (omega arith)))
  ]
]

-- where the node stands once, its children as they are may be named in the edit
pub at_named : {A : Type 0} (p : ℕ) (f : Forest A → Forest A) (t : Forest A) → tally p t ≤ 1 → at p f t ≡ at p (λ _. f (kids p t)) t
at_named p f t l = at_known p f (kids p t) t refl l

pub tally_at : {A : Type 0} (p j : ℕ) (ks t : Forest A) → tally p t ≤ 1 → on p t ≡ true → tally j (at p (λ _. ks) t) + tally j (kids p t) ≡ tally j t + tally j ks
tally_at p j ks none l o = absurd (false≢true o)
tally_at p j ks (node m x k r) l o = elim (cases_Bool (m == p)) [
  | inl e ↦ (
      let l' = rw e at l in
      let z : on p r ≡ false = tally_off p r (omega arith) in
      rw (e, at_away p (λ _. ks) r z) (omega arith))
  | inr e ↦ elim (cases_Bool (on p k)) [
    | inl g ↦ (
        let i = on_tally p k g in
        let z : on p r ≡ false = tally_off p r (omega arith) in
        let h = tally_at p j ks k (omega arith) g in
        rw (e, g, at_away p (λ _. ks) r z) (omega arith))
    | inr g ↦ (
        let h = tally_at p j ks r (omega arith) (rw (e, g) at o) in
        rw (e, g, at_away p (λ _. ks) k g) (omega arith))
  ]
]
