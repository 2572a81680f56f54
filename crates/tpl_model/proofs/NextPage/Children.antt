-- The children of a node on a page and on the next one, by their numbers.
use Rattle.std.proofs.Common.{◌≡◌, ℕ, ◌<◌, ◌≤◌, ◌==◌, ltb, nat_eq, true, false, List, [], ◌∷◌, map, refl, sym, ap, subst, ◌∙◌, arith, eqb-true, eq-eqb, inl, inr}
use Rattle.std.specs.List.{AllByRecursion, IsDistinct}
use Rattle.std.proofs.lemmas.Bool.{cases_Bool, false≢true, true≢false, ltb-false, ltb-true}
use Rattle.page_model.specs.Edits.{listed, siblings}
use Rattle.page_model.specs.Forest.{Forest, none, node, has, kids, on, parent, tally}
use Rattle.page_model.specs.Labels.{Root, Look}
use Rattle.page_model.specs.Pages.{NumberedPage, IsPage, IsShape, SameOrigin, carried, looks, number_of, page_shape, those}
use Rattle.page_model.proofs.Shared.{has_listed, has_on, has_parent, on_kids, on_tally, or_left, or_right, tally_kids, Once, distinct_after, new_number, old_number, parent_is}
use Rattle.tpl_model.specs.NextPage.Children.{ChildrenLaw, next_children, old_children}
use Rattle.tpl_model.proofs.NextPage.Lookups.{children_read, in_map, map_in, those_num}
use Rattle.tpl_model.proofs.Numbered.{child_on, siblings_num}

-- ---- each number once

once_siblings : {A : Type 0} (t : Forest A) → ((j : ℕ) → tally j t ≤ 1) → Once (siblings t)
once_siblings none l = tt
once_siblings (node n x k r) l = (
  elim (cases_Bool (listed n (siblings r))) [
    | inl e ↦ (
        let h = on_tally n r (has_on n r (has_listed n r ∙ e)) in
        let m = rw (eq-eqb n n refl) at (l n) in
        absurd (omega (arith, h, m)))
    | inr e ↦ e
  ],
  once_siblings r (λ j. (let m = l j in omega (arith, m))),
)

flipped : (n m : ℕ) → (m == n) ≡ false → nat_eq n m ≡ false
flipped n m h = elim (cases_Bool (nat_eq n m)) [
  | inl e ↦ absurd (true≢false (sym (eq-eqb m n (sym (eqb-true n m e))) ∙ h))
  | inr e ↦ e
]

differ : (n : ℕ) (ms : List ℕ) → listed n ms ≡ false → AllByRecursion (λ (m : ℕ). nat_eq n m ≡ false) ms
differ n [] h = tt
differ n (m ∷ ms) h = elim (cases_Bool (m == n)) [
  | inl e ↦ absurd (true≢false (rw e at h))
  | inr e ↦ (flipped n m e, differ n ms (rw e at h))
]

not_mapped : (num : ℕ → ℕ) (x : ℕ) (xs : List ℕ) → ((b : ℕ) → listed b xs ≡ true → num b ≡ num x → b ≡ x) → listed x xs ≡ false → listed (num x) (map num xs) ≡ false
not_mapped num x xs d h = elim (cases_Bool (listed (num x) (map num xs))) [
  | inl e ↦ (
      let i = in_map num (num x) xs e in
      absurd (true≢false (sym i.1 ∙ (ap (λ z. listed z xs) (d i.0 i.1 i.2) ∙ h))))
  | inr e ↦ e
]

once_mapped : (num : ℕ → ℕ) (xs : List ℕ) → ((b c : ℕ) → listed b xs ≡ true → listed c xs ≡ true → num b ≡ num c → b ≡ c) → Once xs → IsDistinct nat_eq (map num xs)
unfolding IsDistinct
once_mapped num [] d o = tt
once_mapped num (x ∷ xs) d o =
    let later : (b : ℕ) → listed b xs ≡ true → listed b (x ∷ xs) ≡ true = λ b h. or_right (x == b) (listed b xs) h in (
      differ (num x) (map num xs) (not_mapped num x xs (λ b h e. d b x (later b h) (or_left (x == x) (listed x xs) (eq-eqb x x refl)) e) o.0),
      once_mapped num xs (λ b c h g e. d b c (later b h) (later c g) e) o.1,
    )

-- the children of a node, by numbers that tell nodes apart
numbers_once : (num : ℕ → ℕ) (t : Forest Look) (a : ℕ) → ((j : ℕ) → tally j t ≤ 1) →
    ((b c : ℕ) → on b t ≡ true → on c t ≡ true → num b ≡ num c → b ≡ c) → IsDistinct nat_eq (map num (siblings (kids a t)))
numbers_once num t a l d =
    once_mapped num (siblings (kids a t)) (λ b c h g e. d b c (child_on a b t h) (child_on a c t g) e)
    (once_siblings (kids a t) (λ j. (let m = tally_kids a j t in let n = l j in omega (arith, m, n))))

-- ---- the numbers of the next page

-- a number that was given before is that of a node that stood
given_stood : (p : NumberedPage) (shape : Forest Look) → IsPage p → (b c : ℕ) → on b (page_shape p) ≡ true → carried p shape c ≡ number_of p b →
    c ≡ b
given_stood p shape q b c o e = elim (cases_Bool (on c (page_shape p))) [
  | inl f ↦ q.distinct c b f o (sym (old_number p shape c f) ∙ e)
  | inr f ↦ (
      let u = new_number p shape c f in
      let v = q.below b o in
      absurd (omega (arith, u, v, e)))
]

-- ---- a child of a node stays its child

-- a child isn't the root
not_root : (t below : Forest Look) (a b : ℕ) → t ≡ node 0 Root below none → tally 0 t ≤ 1 → has b (kids a t) ≡ true → (0 == b) ≡ false
not_root t below a b is once h = elim (cases_Bool (0 == b)) [
  | inl e ↦ (
      let z : on 0 (kids a t) ≡ true = ap (λ j. on j (kids a t)) (eqb-true 0 b e) ∙ has_on b (kids a t) h in
      let i : on 0 (kids a (node 0 Root below none)) ≡ true = subst (λ u. on 0 (kids a u) ≡ true) is z in
      let o : tally 0 (node 0 Root below none) ≤ 1 = subst (λ u. tally 0 u ≤ 1) is once in
      let j = on_tally 0 below (inside i) in
      absurd (omega (arith, o, j)))
  | inr e ↦ e
]
  where
    inside : on 0 (kids a (node 0 Root below none)) ≡ true → on 0 below ≡ true
    inside i = elim (cases_Bool (0 == a)) [
      | inl e ↦ rw e at i
      | inr e ↦ elim (cases_Bool (on a below)) [
        | inl f ↦ on_kids a 0 below (rw (e, f) at i)
        | inr f ↦ absurd (false≢true (rw (e, f) at i))
      ]
    ]

-- where a node has the same parent on two trees
same_child : (old new below below' : Forest Look) (a b : ℕ) → old ≡ node 0 Root below none → new ≡ node 0 Root below' none →
    ((j : ℕ) → tally j old ≤ 1) → ((j : ℕ) → tally j new ≤ 1) → on a old ≡ true → listed b (siblings (kids a old)) ≡ true → on b new ≡ true →
    parent b old ≡ parent b new → listed b (siblings (kids a new)) ≡ true
same_child old new below below' a b old_is new_is old_once new_once o h i up =
    let h' : has b (kids a old) ≡ true = has_listed b (kids a old) ∙ h in
    let off : (0 == b) ≡ false = not_root old below a b old_is (old_once 0) h' in
    let top : has b new ≡ false = ap (has b) new_is ∙ (rw off refl) in
    let at = has_parent b new new_once i top in
    sym (has_listed b (kids a new)) ∙ (ap (λ z. has b (kids z new)) (sym (parent_is a b old (old_once b) o h') ∙ up) ∙ at.0)

pub stays_child : (p : NumberedPage) (shape : Forest Look) (a b : ℕ) → IsPage p → IsShape shape → SameOrigin (page_shape p) shape →
    on a (page_shape p) ≡ true → listed b (siblings (kids a (page_shape p))) ≡ true → on b shape ≡ true → listed b (siblings (kids a shape)) ≡ true
stays_child p shape a b q s so o h i =
    same_child (page_shape p) shape (looks q.rooted.below) s.rooted.below a b (ap looks q.rooted.is) s.rooted.is q.once s.once o h i
    (so.parents b (child_on a b (page_shape p) h) i)

stood_child : (p : NumberedPage) (shape : Forest Look) (a b : ℕ) → IsPage p → IsShape shape → SameOrigin (page_shape p) shape →
    on a shape ≡ true → listed b (siblings (kids a shape)) ≡ true → on b (page_shape p) ≡ true → listed b (siblings (kids a (page_shape p))) ≡ true
stood_child p shape a b q s so n h i =
    same_child shape (page_shape p) s.rooted.below (looks q.rooted.below) a b s.rooted.is (ap looks q.rooted.is) s.once q.once n h i
    (sym (so.parents b i (child_on a b shape h)))

-- ---- the law

-- an old child's number is among the next ones where the child is on the next page
left_by : (p : NumberedPage) (shape : Forest Look) (a : ℕ) → IsPage p → IsShape shape → SameOrigin (page_shape p) shape → on a (page_shape p) ≡ true →
    (b : ℕ) → listed b (siblings (kids a (page_shape p))) ≡ true → listed (number_of p b) (map (carried p shape) (siblings (kids a shape))) ≡ on b shape
left_by p shape a q s so o b h =
    let old = child_on a b (page_shape p) h in
    let ns = siblings (kids a shape) in
    elim (cases_Bool (on b shape)) [
      | inl e ↦ (
          let there = map_in (carried p shape) b ns (stays_child p shape a b q s so o h e) in
          ap (λ z. listed z (map (carried p shape) ns)) (sym (old_number p shape b old)) ∙ (there ∙ sym e))
      | inr e ↦ elim (cases_Bool (listed (number_of p b) (map (carried p shape) ns))) [
        | inl f ↦ (
            let i = in_map (carried p shape) (number_of p b) ns f in
            let c = given_stood p shape q b i.0 old i.2 in
            absurd (true≢false (sym (child_on a i.0 shape i.1) ∙ (ap (λ z. on z shape) c ∙ e))))
        | inr f ↦ f ∙ sym e
      ]
    ]

-- a next child stood there where its number was given before
stood_by : (p : NumberedPage) (shape : Forest Look) (a : ℕ) → IsPage p → IsShape shape → SameOrigin (page_shape p) shape → on a shape ≡ true →
    (b : ℕ) → listed b (siblings (kids a shape)) ≡ true →
    listed (carried p shape b) (map (number_of p) (siblings (kids a (page_shape p)))) ≡ ltb (carried p shape b) p.next
stood_by p shape a q s so n b h =
    let os = siblings (kids a (page_shape p)) in
    elim (cases_Bool (on b (page_shape p))) [
      | inl e ↦ (
          let is = old_number p shape b e in
          let there = map_in (number_of p) b os (stood_child p shape a b q s so n h e) in
          let below : ltb (number_of p b) p.next ≡ true = low (number_of p b) p.next (q.below b e) in
          ap (λ z. listed z (map (number_of p) os)) is ∙ (there ∙ sym (ap (λ z. ltb z p.next) is ∙ below)))
      | inr e ↦ (
          let is = new_number p shape b e in
          let above : ltb (carried p shape b) p.next ≡ false = high (carried p shape b) p.next (omega (arith, is)) in
          elim (cases_Bool (listed (carried p shape b) (map (number_of p) os))) [
            | inl f ↦ (
                let i = in_map (number_of p) (carried p shape b) os f in
                let c = given_stood p shape q i.0 b (child_on a i.0 (page_shape p) i.1) (sym i.2) in
                absurd (true≢false (sym (child_on a i.0 (page_shape p) i.1) ∙ (ap (λ z. on z (page_shape p)) (sym c) ∙ e))))
            | inr f ↦ f ∙ sym above
          ])
    ]
  where
    low : (m n : ℕ) → m < n → ltb m n ≡ true
    low m n l = elim (cases_Bool (ltb m n)) [ inl e ↦ e | inr e ↦ (let u = ltb-false m n e in absurd (omega (arith, l, u))) ]

    high : (m n : ℕ) → n ≤ m → ltb m n ≡ false
    high m n l = elim (cases_Bool (ltb m n)) [ inl e ↦ (let u = ltb-true m n e in absurd (omega (arith, l, u))) | inr e ↦ e ]

pub children_law : ChildrenLaw
children_law p shape q s so a o n =
    let num = carried p shape in
    let olds : old_children p a ≡ map (number_of p) (siblings (kids a (page_shape p))) = children_read p a q o in
    let news : siblings (next_children p shape a) ≡ map num (siblings (kids a shape)) = siblings_num num (kids a shape) in
    record {
      old_once = subst (IsDistinct nat_eq) (sym olds) (numbers_once (number_of p) (page_shape p) a q.once q.distinct);
      next_once = subst (IsDistinct nat_eq) (sym news) (numbers_once num shape a s.once (distinct_after p shape q s));
      left = (λ i. those (λ m. listed m (news i)) (olds i))
          ∙ sym (those_num (number_of p) (λ b. on b shape) (λ m. listed m (map num (siblings (kids a shape)))) (siblings (kids a (page_shape p))) (left_by p shape a q s so o));
      stood = λ j h.
          let i = in_map num j (siblings (kids a shape)) (ap (listed j) (sym news) ∙ h) in
          subst (λ z. listed z (old_children p a) ≡ ltb z p.next) i.2 (ap (listed (num i.0)) olds ∙ stood_by p shape a q s so n i.0 i.1);
    }
