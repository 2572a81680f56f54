-- The line of an address, and of a page's node.
use Rattle.std.proofs.Common.{◌≡◌, ℕ, zero, suc, ◌+◌, ◌*◌, ◌<◌, ◌==◌, true, false, ◌||◌, List, Option, refl, sym, ap, ◌∙◌, arith, eqb-true, eq-eqb, inl, inr}
use Rattle.std.proofs.lemmas.Bool.{cases_Bool, false≢true, or_cases}
use Rattle.std.proofs.Math.Nat.{add-mul-mod_self_left, mul-div_cancel_left, mul-mod_right}
use Rattle.page_model.specs.Addresses.{address, doubled, row_code}
use Rattle.page_model.specs.Forest.{Forest, label_in, node, none, on}
use Rattle.page_model.specs.Labels.{Look, Root}
use Rattle.page_model.specs.Pages.{IsPage, NumberedPage, number_of, page_shape}
use Rattle.page_model.proofs.Shared.{or_left, or_right, self_on, Tells, on_looks, tally_looks, tells}
use Rattle.event_model.specs.Ways.{addresses, halvings, line_in, line_on}

-- ---- of an address

more_than : (l r : ℕ) → l < doubled l (1 + 2 * r)
more_than zero r = omega arith
more_than (suc l) r = let i = more_than l r in omega (arith, i)

halved : (more l r : ℕ) → l < more → halvings more (doubled l (1 + 2 * r)) ≡ l
halved zero l r h = absurd (omega (arith, h))
halved (suc more) zero r h = rw (add-mul-mod_self_left 1 2 r) refl
halved (suc more) (suc l) r h =
    let d = doubled l (1 + 2 * r) in
    rw (mul-mod_right 2 d, mul-div_cancel_left d {n = 2} (omega arith)) (ap suc (halved more l r (omega (arith, h))))

pub line_of_address : (l : ℕ) (row : Option (List ℕ)) → line_in (address l row) ≡ l
unfolding line_in address
line_of_address l row = halved (doubled l (1 + 2 * row_code row)) l (row_code row) (more_than l (row_code row))

-- ---- of a node

-- each node has the number that is known of its address
abbrev AreNumbered : (ℕ → ℕ) → Forest (ℕ × Look) → Type 0
AreNumbered num none = Unit {0}
AreNumbered num (node m x k r) = (num m ≡ x.0) × AreNumbered num k × AreNumbered num r

numbered_told : (label : ℕ → ℕ × Look) (t : Forest (ℕ × Look)) → Tells label t → AreNumbered (λ a. (label a).0) t
numbered_told label none h = tt
numbered_told label (node m x k r) h = (ap (λ z. z.0) h.0, numbered_told label k h.1, numbered_told label r h.2)

-- a number among those of nodes is that of an address
on_addresses : (num : ℕ → ℕ) (n : ℕ) (t : Forest (ℕ × Look)) → AreNumbered num t → on n (addresses t) ≡ true → (a : ℕ) × (on a t ≡ true) × (num a ≡ n)
on_addresses num n none h o = absurd (false≢true o)
on_addresses num n (node m x k r) h o = elim (or_cases (x.0 == n) (on n (addresses k) || on n (addresses r)) o) [
  | inl e ↦ (m, self_on m x k r, h.0 ∙ eqb-true x.0 n e)
  | inr e ↦ elim (or_cases (on n (addresses k)) (on n (addresses r)) e) [
    | inl f ↦ (let i = on_addresses num n k h.1 f in (i.0, or_right (m == i.0) (on i.0 k || on i.0 r) (or_left (on i.0 k) (on i.0 r) i.1), i.2))
    | inr f ↦ (let i = on_addresses num n r h.2 f in (i.0, or_right (m == i.0) (on i.0 k || on i.0 r) (or_right (on i.0 k) (on i.0 r) i.1), i.2))
  ]
]

-- and the number of an address is among them
number_on : (num : ℕ → ℕ) (a : ℕ) (t : Forest (ℕ × Look)) → AreNumbered num t → on a t ≡ true → on (num a) (addresses t) ≡ true
number_on num a none h o = absurd (false≢true o)
number_on num a (node m x k r) h o = elim (or_cases (m == a) (on a k || on a r) o) [
  | inl e ↦ or_left (x.0 == num a) (on (num a) (addresses k) || on (num a) (addresses r)) (eq-eqb x.0 (num a) (sym h.0 ∙ ap num (eqb-true m a e)))
  | inr e ↦ or_right (x.0 == num a) (on (num a) (addresses k) || on (num a) (addresses r))
      (elim (or_cases (on a k) (on a r) e) [
        | inl f ↦ or_left (on (num a) (addresses k)) (on (num a) (addresses r)) (number_on num a k h.1 f)
        | inr f ↦ or_right (on (num a) (addresses k)) (on (num a) (addresses r)) (number_on num a r h.2 f)
      ])
]

-- where no two addresses have one number, that of an address has this address
address_back : (num : ℕ → ℕ) (a : ℕ) (t : Forest (ℕ × Look)) → AreNumbered num t → on a t ≡ true → ((b : ℕ) → on b t ≡ true → num a ≡ num b → a ≡ b) →
    label_in 0 (num a) (addresses t) ≡ a
address_back num a none h o d = absurd (false≢true o)
address_back num a (node m x k r) h o d =
    let up_k : (b : ℕ) → on b k ≡ true → on b (node m x k r) ≡ true = λ b e. or_right (m == b) (on b k || on b r) (or_left (on b k) (on b r) e) in
    let up_r : (b : ℕ) → on b r ≡ true → on b (node m x k r) ≡ true = λ b e. or_right (m == b) (on b k || on b r) (or_right (on b k) (on b r) e) in
    elim (cases_Bool (x.0 == num a)) [
      | inl e ↦ rw e (sym (d m (self_on m x k r) (sym (eqb-true x.0 (num a) e) ∙ sym h.0)))
      | inr e ↦ elim (cases_Bool (on (num a) (addresses k))) [
        | inl f ↦ (
            let i = on_addresses num (num a) k h.1 f in
            let there : on a k ≡ true = ap (λ z. on z k) (d i.0 (up_k i.0 i.1) (sym i.2)) ∙ i.1 in
            rw (e, f) (address_back num a k h.1 there (λ b g. d b (up_k b g))))
        | inr f ↦ (
            let off_k : on a k ≡ false = elim (cases_Bool (on a k)) [ inl g ↦ absurd (false≢true (sym f ∙ number_on num a k h.1 g)) | inr g ↦ g ] in
            let other : (m == a) ≡ false = elim (cases_Bool (m == a)) [
              | inl g ↦ absurd (false≢true (sym e ∙ eq-eqb x.0 (num a) (sym h.0 ∙ ap num (eqb-true m a g))))
              | inr g ↦ g
            ] in
            let there : on a r ≡ true = rw (other, off_k) at o in
            rw (e, f) (address_back num a r h.2 there (λ b g. d b (up_r b g))))
      ]
    ]

-- ---- of a page

numbered_on : (p : NumberedPage) → IsPage p → AreNumbered (number_of p) p.nodes
numbered_on p q =
    numbered_told (λ a. label_in (0, Root) a p.nodes) p.nodes
    (tells (0, Root) p.nodes (λ j. let i = q.once j in let s = tally_looks j p.nodes in omega (arith, i, s)))

pub line_of_node : (p : NumberedPage) (a : ℕ) → IsPage p → on a (page_shape p) ≡ true → line_on p (number_of p a) ≡ line_in a
line_of_node p a q o =
    let seen : (b : ℕ) → on b p.nodes ≡ true → on b (page_shape p) ≡ true = λ b e. on_looks b p.nodes ∙ e in
    let there : on a p.nodes ≡ true = sym (on_looks a p.nodes) ∙ o in
    ap line_in (address_back (number_of p) a p.nodes (numbered_on p q) there (λ b e f. q.distinct a b o (seen b e) f))
