-- What the trees of a store's rows say of one thing.
use Rattle.std.proofs.Common.{◌≡◌, ℕ, zero, suc, ◌+◌, ◌<◌, ◌≤◌, ◌==◌, ◌&&◌, Bool, true, false, List, [], ◌∷◌, length, Option, Some, None, inl, inr, eq-eqb, refl, sym, ap, subst, ◌∙◌, arith, cond}
use Rattle.std.specs.Prelude.{not, is_some}
use Rattle.std.proofs.lemmas.Bool.{cases_Bool, cases_eq, ne_eqb, or_left, or_right, true≢false}
use Rattle.effect_model.specs.Owners.{Thing, Owned, nothing, thing, cleanup, same_thing, under, with_earlier}
use Rattle.sig_owner.specs.Tables.{Item, held, leaf, noted, Row, above_at, items_at, live_at, row_at, thing_at}
use Rattle.sig_owner.specs.Trees.{is_top, owned_of, piled, stands_under, top_items, under_within}
use Rattle.sig_owner.specs.Places.{RowsAgree, held_count}
use Rattle.sig_owner.specs.Walks.{IsTable, is_held}
use Rattle.sig_owner.proofs.Consistency.{held_counted, same_refl}
use Rattle.sig_owner.proofs.Rows.{row_past}

-- ---- levels

-- a tree looks only at what is held there
pub piled_same : (names names' : ℕ → Thing) (f g : ℕ → Owned) (is : List Item) (e : Owned) → ((m : ℕ) → is_held m is ≡ true → (names m ≡ names' m) × (f m ≡ g m)) → piled names f is e ≡ piled names' g is e
piled_same names names' f g [] e h = refl
piled_same names names' f g (held k ∷ is) e h =
    let here = h k (or_left (k == k) (is_held k is) (eq-eqb k k refl)) in
    ap (λ x. piled names f is x) (λ j. thing (here.0 j) (here.1 j) e) ∙ piled_same names names' f g is (thing (names' k) (g k) e) (λ m q. h m (or_right (m == k) (is_held m is) q))
piled_same names names' f g (leaf t ∷ is) e h = piled_same names names' f g is (thing t nothing e) h
piled_same names names' f g (noted c ∷ is) e h = piled_same names names' f g is (cleanup c e) h

under_levels : (rows : List Row) → IsTable rows → (l n : ℕ) → length rows ≤ l + n → under_within (suc l) rows n ≡ under_within l rows n
under_levels rows t zero n h = ap (λ (r : Row). piled (thing_at rows) (under_within zero rows) r.items nothing) (row_past rows n (omega (arith, h)))
under_levels rows t (suc l) n h =
    piled_same (thing_at rows) (thing_at rows) (under_within (suc l) rows) (under_within l rows) (items_at rows n) nothing
    (λ m q. (refl, under_levels rows t l m (let x : n < m = t.later n m q in omega arith)))

-- what stands under a holder, by what stands under those that it holds
pub stands_here : (rows : List Row) → IsTable rows → (n : ℕ) → stands_under rows n ≡ piled (thing_at rows) (stands_under rows) (items_at rows n) nothing
unfolding stands_under
stands_here rows t n = sym (under_levels rows t (length rows) n (omega arith))

-- past the last row nothing stands
pub stands_past : (rows : List Row) → IsTable rows → (n : ℕ) → length rows ≤ n → stands_under rows n ≡ nothing
stands_past rows t n h = stands_here rows t n ∙ ap (λ (r : Row). piled (thing_at rows) (stands_under rows) r.items nothing) (row_past rows n h)

-- ---- what stands under one thing

pub earlier_nothing : (x : Owned) → with_earlier x nothing ≡ x
earlier_nothing nothing = refl
earlier_nothing (thing t made rest) = ap (λ y. thing t made y) (earlier_nothing rest)
earlier_nothing (cleanup c rest) = ap (λ y. cleanup c y) (earlier_nothing rest)

earlier_assoc : (x y z : Owned) → with_earlier (with_earlier x y) z ≡ with_earlier x (with_earlier y z)
earlier_assoc nothing y z = refl
earlier_assoc (thing t made rest) y z = ap (λ w. thing t made w) (earlier_assoc rest y z)
earlier_assoc (cleanup c rest) y z = ap (λ w. cleanup c w) (earlier_assoc rest y z)

under_earlier : (t : Thing) (x y : Owned) → under t (with_earlier x y) ≡ with_earlier (under t x) (under t y)
under_earlier t nothing y = refl
under_earlier t (thing u made rest) y =
    ap (with_earlier (cond (same_thing t u) made (under t made))) (under_earlier t rest y) ∙ sym (earlier_assoc (cond (same_thing t u) made (under t made)) (under t rest) (under t y))
under_earlier t (cleanup c rest) y = under_earlier t rest y

-- what each holder among the items gives, the last first
abbrev pub given : (ℕ → Owned) → List Item → Owned → Owned
given g [] e = e
given g (held m ∷ is) e = given g is (with_earlier (g m) e)
given g (leaf t ∷ is) e = given g is e
given g (noted c ∷ is) e = given g is e

-- what a holder gives of what stands under a thing
abbrev pub part : (ℕ → Thing) → (ℕ → Owned) → Thing → ℕ → Owned
part names f t m = cond (same_thing t (names m)) (f m) (under t (f m))

under_piled : (names : ℕ → Thing) (f : ℕ → Owned) (t : Thing) (is : List Item) (e : Owned) → under t (piled names f is e) ≡ given (part names f t) is (under t e)
under_piled names f t [] e = refl
under_piled names f t (held m ∷ is) e = under_piled names f t is (thing (names m) (f m) e)
under_piled names f t (noted c ∷ is) e = under_piled names f t is (cleanup c e)
under_piled names f t (leaf u ∷ is) e = under_piled names f t is (thing u nothing e) ∙ ap (given (part names f t) is) (none (same_thing t u))
  where
    none : (b : Bool) → with_earlier (cond b nothing nothing) (under t e) ≡ under t e
    none true = refl
    none false = refl

given_same : (f g : ℕ → Owned) (is : List Item) (e : Owned) → ((m : ℕ) → is_held m is ≡ true → f m ≡ g m) → given f is e ≡ given g is e
given_same f g [] e h = refl
given_same f g (held k ∷ is) e h =
    ap (λ x. given f is (with_earlier x e)) (h k (or_left (k == k) (is_held k is) (eq-eqb k k refl))) ∙ given_same f g is (with_earlier (g k) e) (λ m q. h m (or_right (m == k) (is_held m is) q))
given_same f g (leaf t ∷ is) e h = given_same f g is e h
given_same f g (noted c ∷ is) e h = given_same f g is e h

under_given : (t : Thing) (g : ℕ → Owned) (is : List Item) (e : Owned) → under t (given g is e) ≡ given (λ m. under t (g m)) is (under t e)
under_given t g [] e = refl
under_given t g (held k ∷ is) e = under_given t g is (with_earlier (g k) e) ∙ ap (given (λ m. under t (g m)) is) (under_earlier t (g k) e)
under_given t g (leaf u ∷ is) e = under_given t g is e
under_given t g (noted c ∷ is) e = under_given t g is e

given_none : (g : ℕ → Owned) (is : List Item) (e : Owned) → ((m : ℕ) → is_held m is ≡ true → g m ≡ nothing) → given g is e ≡ e
given_none g [] e h = refl
given_none g (held k ∷ is) e h =
    ap (λ x. given g is (with_earlier x e)) (h k (or_left (k == k) (is_held k is) (eq-eqb k k refl))) ∙ given_none g is e (λ m q. h m (or_right (m == k) (is_held m is) q))
given_none g (leaf t ∷ is) e h = given_none g is e h
given_none g (noted c ∷ is) e h = given_none g is e h

not_held : (m : ℕ) (is : List Item) → held_count m is ≡ 0 → is_held m is ≡ false
not_held m [] e = refl
not_held m (leaf t ∷ is) e = not_held m is e
not_held m (noted c ∷ is) e = not_held m is e
not_held m (held k ∷ is) e = elim (cases_eq m k) [
  | inl q ↦ (let w = eq-eqb m k q in let r : 1 + held_count m is ≡ 0 = rw w at e in absurd (omega (arith, r)))
  | inr q ↦ (let w = ne_eqb m k q in let r : 0 + held_count m is ≡ 0 = rw w at e in rw w (not_held m is (omega (arith, r))))
]

-- where one holder gives something, and stands there once
given_one : (g : ℕ → Owned) (o : ℕ) (is : List Item) → held_count o is ≡ 1 → ((m : ℕ) → is_held m is ≡ true → (m ≡ o → ⊥) → g m ≡ nothing) → given g is nothing ≡ g o
given_one g o [] c h = absurd (omega (arith, c))
given_one g o (leaf t ∷ is) c h = given_one g o is c h
given_one g o (noted u ∷ is) c h = given_one g o is c h
given_one g o (held k ∷ is) c h = elim (cases_eq o k) [
  | inl q ↦ (let w = eq-eqb o k q in let r : 1 + held_count o is ≡ 1 = rw w at c in
      let off = not_held o is (omega (arith, r)) in
      ap (given g is) (earlier_nothing (g k)) ∙ (given_none g is (g k) (λ m x. h m (or_right (m == k) (is_held m is) x) (λ z. true≢false (sym (ap (λ j. is_held j is) (sym z) ∙ x) ∙ off))) ∙ ap g (sym q)))
  | inr q ↦ (let w = ne_eqb o k q in let r : 0 + held_count o is ≡ 1 = rw w at c in
      ap (λ x. given g is (with_earlier x nothing)) (h k (or_left (k == k) (is_held k is) (eq-eqb k k refl)) (λ z. q (sym z)))
      ∙ given_one g o is (omega (arith, r)) (λ m x. h m (or_right (m == k) (is_held m is) x)))
]

-- ---- the holders at the top

top_is : (r : Row) → is_top r ≡ true → (r.live ≡ true) × (r.above ≡ None)
top_is r e = (first r.live (not (is_some r.above)) e, bare r.above (second r.live (not (is_some r.above)) e))
  where
    first : (a b : Bool) → (a && b) ≡ true → a ≡ true
    first true b q = refl
    first false b q = q

    second : (a b : Bool) → (a && b) ≡ true → b ≡ true
    second true b q = q
    second false b q = absurd (true≢false (sym q))

    bare : (o : Option ℕ) → not (is_some o) ≡ true → o ≡ None
    bare None q = refl
    bare (Some n) q = absurd (true≢false (sym q))

pub is_top_row : (r : Row) → r.live ≡ true → r.above ≡ None → is_top r ≡ true
is_top_row r l a = (λ i. (l i) && not (is_some (a i)))

top_later : (k m : ℕ) (rs : List Row) → m < k → held_count m (top_items k rs) ≡ 0
top_later k m [] l = refl
top_later k m (r ∷ rs) l = by (is_top r) (top_later (k + 1) m rs (omega (arith, l)))
  where
    by : (b : Bool) → held_count m (top_items (k + 1) rs) ≡ 0 → held_count m (cond b (held k ∷ top_items (k + 1) rs) (top_items (k + 1) rs)) ≡ 0
    by true z = let w = ne_eqb m k (λ e. let x : m ≡ k = e in absurd (omega (arith, x, l))) in rw w (omega (arith, z))
    by false z = z

pub top_count : (k j m : ℕ) (rs : List Row) → m ≡ k + j → is_top (row_at rs j) ≡ true → held_count m (top_items k rs) ≡ 1
top_count k j m [] q e = absurd (true≢false (sym e))
top_count k zero m (r ∷ rs) q e =
    let w = eq-eqb m k (let x : m ≡ k = omega (arith, q) in x) in
    let z = top_later (k + 1) m rs (omega (arith, q)) in
    rw (e, w) (omega (arith, z))
top_count k (suc j) m (r ∷ rs) q e = by (is_top r) (top_count (k + 1) j m rs (omega (arith, q)) e)
  where
    by : (b : Bool) → held_count m (top_items (k + 1) rs) ≡ 1 → held_count m (cond b (held k ∷ top_items (k + 1) rs) (top_items (k + 1) rs)) ≡ 1
    by true z = let w = ne_eqb m k (λ x. absurd (omega (arith, x, q))) in rw w (omega (arith, z))
    by false z = z

-- a holder at the top has such a row
pub record TopRow (k m : ℕ) (rs : List Row) : Type 0 where
  pub place : ℕ
  pub is : m ≡ k + place
  pub top : is_top (row_at rs place) ≡ true

top_held : (k m : ℕ) (rs : List Row) → is_held m (top_items k rs) ≡ true → TopRow k m rs
top_held k m [] e = absurd (true≢false (sym e))
top_held k m (r ∷ rs) e = by (is_top r) refl e (top_held (k + 1) m rs)
  where
    later : TopRow (k + 1) m rs → TopRow k m (r ∷ rs)
    later t = record { place = suc t.place; is = let x = t.is in omega (arith, x); top = t.top }

    by : (b : Bool) → is_top r ≡ b → is_held m (cond b (held k ∷ top_items (k + 1) rs) (top_items (k + 1) rs)) ≡ true → (is_held m (top_items (k + 1) rs) ≡ true → TopRow (k + 1) m rs) → TopRow k m (r ∷ rs)
    by false q x f = later (f x)
    by true q x f = elim (cases_eq m k) [
      | inl z ↦ record { place = 0; is = omega (arith, z); top = q }
      | inr z ↦ (let w = ne_eqb m k z in later (f (let y : is_held m (top_items (k + 1) rs) ≡ true = rw w at x in y)))
    ]

-- ---- what stands under a holder that lives, in the tree of all that stands

module _ (rows : List Row) (owners : ℕ) (h : RowsAgree rows owners) where
  pub top_lives : (m : ℕ) → is_held m (top_items 0 rows) ≡ true → (live_at rows m ≡ true) × (above_at rows m ≡ None)
  top_lives m e =
      let t = top_held 0 m rows e in
      let q : t.place ≡ m = (let x = t.is in omega (arith, x)) in
      subst (λ j. (live_at rows j ≡ true) × (above_at rows j ≡ None)) q (top_is (row_at rows t.place) t.top)

  pub same_is : (o m : ℕ) → live_at rows o ≡ true → live_at rows m ≡ true → same_thing (thing_at rows o) (thing_at rows m) ≡ (o == m)
  same_is o m l k = elim (cases_eq o m) [
    | inl q ↦ ap (λ j. same_thing (thing_at rows o) (thing_at rows j)) (sym q) ∙ (same_refl (thing_at rows o) ∙ sym (eq-eqb o m q))
    | inr q ↦ elim (cases_Bool (same_thing (thing_at rows o) (thing_at rows m))) [
      | inl s ↦ absurd (q (h.names o m l k s))
      | inr s ↦ s ∙ sym (ne_eqb o m q)
    ]
  ]

  part_same : (o m : ℕ) → live_at rows o ≡ true → live_at rows m ≡ true → o ≡ m → part (thing_at rows) (stands_under rows) (thing_at rows o) m ≡ stands_under rows m
  part_same o m l k q = ap (λ b. cond b (stands_under rows m) (under (thing_at rows o) (stands_under rows m))) (same_is o m l k ∙ eq-eqb o m q)

  part_other : (o m : ℕ) → live_at rows o ≡ true → live_at rows m ≡ true → (o ≡ m → ⊥) → part (thing_at rows) (stands_under rows) (thing_at rows o) m ≡ under (thing_at rows o) (stands_under rows m)
  part_other o m l k q = ap (λ b. cond b (stands_under rows m) (under (thing_at rows o) (stands_under rows m))) (same_is o m l k ∙ ne_eqb o m q)

  under_here : (t : Thing) (n : ℕ) → under t (stands_under rows n) ≡ given (part (thing_at rows) (stands_under rows) t) (items_at rows n) nothing
  under_here t n = ap (under t) (stands_here rows h.table n) ∙ under_piled (thing_at rows) (stands_under rows) t (items_at rows n) nothing

  -- a holder stands under none with a later number
  none_below : (b o n : ℕ) → live_at rows o ≡ true → length rows ≤ b + n → o ≤ n → under (thing_at rows o) (stands_under rows n) ≡ nothing
  none_below zero o n l s q = ap (under (thing_at rows o)) (stands_past rows h.table n (omega (arith, s)))
  none_below (suc b) o n l s q = under_here (thing_at rows o) n ∙ given_none (part (thing_at rows) (stands_under rows) (thing_at rows o)) (items_at rows n) nothing
      (λ m e. let x = h.table.later n m e in
      part_other o m l (h.table.lives n m e) (λ z. absurd (omega (arith, x, z, q))) ∙ none_below b o m l (omega (arith, x, s)) (omega (arith, x, q)))

  -- one at the top stands under none
  top_below : (b o n : ℕ) → live_at rows o ≡ true → above_at rows o ≡ None → length rows ≤ b + n → under (thing_at rows o) (stands_under rows n) ≡ nothing
  top_below zero o n l a s = ap (under (thing_at rows o)) (stands_past rows h.table n (omega (arith, s)))
  top_below (suc b) o n l a s = under_here (thing_at rows o) n ∙ given_none (part (thing_at rows) (stands_under rows) (thing_at rows o)) (items_at rows n) nothing
      (λ m e. let x = h.table.later n m e in
      part_other o m l (h.table.lives n m e) (λ z. let y : None ≡ Some n = sym a ∙ (ap (above_at rows) z ∙ h.above n m e) in cc) ∙ top_below b o m l a (omega (arith, x, s)))

  -- a holder stands only where the one does in which it stands
  through_items : (o p : ℕ) (is : List Item) → live_at rows o ≡ true → live_at rows p ≡ true → ((m : ℕ) → is_held m is ≡ true → (live_at rows m ≡ true) × (o ≡ m → ⊥)) →
      ((m : ℕ) → is_held m is ≡ true → (p ≡ m → ⊥) → under (thing_at rows o) (stands_under rows m) ≡ under (thing_at rows o) (under (thing_at rows p) (stands_under rows m))) →
      under (thing_at rows o) (piled (thing_at rows) (stands_under rows) is nothing) ≡ under (thing_at rows o) (under (thing_at rows p) (piled (thing_at rows) (stands_under rows) is nothing))
  through_items o p is l k f g =
      let t = thing_at rows o in
      let u = thing_at rows p in
      under_piled (thing_at rows) (stands_under rows) t is nothing
      ∙ (given_same (part (thing_at rows) (stands_under rows) t) (λ m. under t (part (thing_at rows) (stands_under rows) u m)) is nothing
      (λ m e. part_other o m l (f m e).0 (f m e).1 ∙ elim (cases_eq p m) [
        | inl q ↦ ap (under t) (sym (part_same p m k (f m e).0 q))
        | inr q ↦ g m e q ∙ ap (under t) (sym (part_other p m k (f m e).0 q))
      ])
      ∙ (sym (under_given t (part (thing_at rows) (stands_under rows) u) is nothing) ∙ ap (under t) (sym (under_piled (thing_at rows) (stands_under rows) u is nothing))))

  through : (b o p n : ℕ) → live_at rows o ≡ true → live_at rows p ≡ true → above_at rows o ≡ Some p → length rows ≤ b + n → (p ≡ n → ⊥) →
      under (thing_at rows o) (stands_under rows n) ≡ under (thing_at rows o) (under (thing_at rows p) (stands_under rows n))
  through zero o p n l k a s q = let z = stands_past rows h.table n (omega (arith, s)) in ap (under (thing_at rows o)) z ∙ sym (ap (λ x. under (thing_at rows o) (under (thing_at rows p) x)) z)
  through (suc b) o p n l k a s q =
      let z = stands_here rows h.table n in
      ap (under (thing_at rows o)) z
      ∙ (through_items o p (items_at rows n) l k
      (λ m e. (h.table.lives n m e, λ w. q (let y : Some p ≡ Some n = sym a ∙ (ap (above_at rows) w ∙ h.above n m e) in cc)))
      (λ m e w. let x = h.table.later n m e in through b o p m l k a (omega (arith, x, s)) w)
      ∙ sym (ap (λ x. under (thing_at rows o) (under (thing_at rows p) x)) z))

  -- a holder stands once in the one that its row names
  under_outer : (o p : ℕ) → live_at rows o ≡ true → live_at rows p ≡ true → above_at rows o ≡ Some p → under (thing_at rows o) (stands_under rows p) ≡ stands_under rows o
  under_outer o p l k a =
      under_here (thing_at rows o) p
      ∙ (given_one (part (thing_at rows) (stands_under rows) (thing_at rows o)) o (items_at rows p) (h.once p o l a)
      (λ m e q. let x = h.table.later p m e in
      part_other o m l (h.table.lives p m e) (λ w. q (sym w))
      ∙ (through (length rows) o p m l k a (omega arith) (λ w. absurd (omega (arith, w, x)))
      ∙ ap (under (thing_at rows o)) (none_below (length rows) p m k (omega arith) (omega (arith, x)))))
      ∙ part_same o o l l refl)

  -- at the top
  at_top : (o : ℕ) → live_at rows o ≡ true → above_at rows o ≡ None → under (thing_at rows o) (piled (thing_at rows) (stands_under rows) (top_items 0 rows) nothing) ≡ stands_under rows o
  at_top o l a =
      under_piled (thing_at rows) (stands_under rows) (thing_at rows o) (top_items 0 rows) nothing
      ∙ (given_one (part (thing_at rows) (stands_under rows) (thing_at rows o)) o (top_items 0 rows) (top_count 0 o o rows (omega arith) (is_top_row (row_at rows o) l a))
      (λ m e q. part_other o m l (top_lives m e).0 (λ w. q (sym w)) ∙ top_below (length rows) o m l a (omega arith))
      ∙ part_same o o l l refl)

  -- inside another
  inside_other : (o p : ℕ) → live_at rows o ≡ true → live_at rows p ≡ true → above_at rows o ≡ Some p →
      under (thing_at rows p) (piled (thing_at rows) (stands_under rows) (top_items 0 rows) nothing) ≡ stands_under rows p →
      under (thing_at rows o) (piled (thing_at rows) (stands_under rows) (top_items 0 rows) nothing) ≡ stands_under rows o
  inside_other o p l k a ih =
      through_items o p (top_items 0 rows) l k
      (λ m e. ((top_lives m e).0, λ w. let y : Some p ≡ None = sym a ∙ (ap (above_at rows) w ∙ (top_lives m e).1) in cc))
      (λ m e w. through (length rows) o p m l k a (omega arith) w)
      ∙ (ap (under (thing_at rows o)) ih ∙ under_outer o p l k a)

  pub outer_lives : (o p : ℕ) → live_at rows o ≡ true → above_at rows o ≡ Some p → live_at rows p ≡ true
  outer_lives o p l a = elim (cases_Bool (live_at rows p)) [
    | inl q ↦ q
    | inr q ↦ (let c = h.once p o l a in let z = ap (held_count o) (h.empty p q) in absurd (omega (arith, c, z)))
  ]

  pub outer_before : (o p : ℕ) → live_at rows o ≡ true → above_at rows o ≡ Some p → p < o
  outer_before o p l a = h.table.later p o (held_counted o (items_at rows p) (h.once p o l a))

  under_each : (b o : ℕ) → o < b → live_at rows o ≡ true → under (thing_at rows o) (piled (thing_at rows) (stands_under rows) (top_items 0 rows) nothing) ≡ stands_under rows o
  under_each zero o lt l = absurd (omega (arith, lt))
  under_each (suc b) o lt l = by (above_at rows o) refl (λ p a. under_each b p (let x = outer_before o p l a in omega (arith, x, lt)) (outer_lives o p l a))
    where
      by : (a : Option ℕ) → above_at rows o ≡ a →
          ((p : ℕ) → above_at rows o ≡ Some p → under (thing_at rows p) (piled (thing_at rows) (stands_under rows) (top_items 0 rows) nothing) ≡ stands_under rows p) →
          under (thing_at rows o) (piled (thing_at rows) (stands_under rows) (top_items 0 rows) nothing) ≡ stands_under rows o
      by None q ih = at_top o l q
      by (Some p) q ih = inside_other o p l (outer_lives o p l q) q (ih p q)

  -- what stands under a holder that lives
  pub under_is : (o : ℕ) → live_at rows o ≡ true → under (thing_at rows o) (owned_of rows) ≡ stands_under rows o
  unfolding owned_of
  under_is o l = under_each (suc o) o (omega arith) l
