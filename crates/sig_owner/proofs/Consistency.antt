-- What holds of a store holds after each edit.
use Rattle.std.proofs.Common.{◌≡◌, ℕ, zero, suc, ◌+◌, ◌<◌, ◌≤◌, ◌==◌, ◌||◌, true, false, List, [], ◌∷◌, ◌++◌, length, Option, Some, None, ◌⊎◌, inl, inr, eq-eqb, refl, sym, ap, subst, ◌∙◌, arith, cond, length-append}
use Rattle.std.proofs.lemmas.Bool.{cases_Bool, cases_eq, cases_lt, eqb-true, ne_eqb, or_left, or_right, true≢false}
use Rattle.effect_model.specs.Owners.{Thing, the_signal, the_owner, the_effect, the_page, the_watcher, same_thing, is_holder}
use Rattle.sig_owner.specs.Tables.{Item, held, leaf, noted, Row, above_at, above_row, changed_at, is_open, is_owner, is_owner_row, items_at, live_at, owner_count, put_inside, row_at, thing_at, with_holder, with_item}
use Rattle.sig_owner.specs.Places.{AreLeaves, RowsAgree, IsPlain, held_count}
use Rattle.sig_owner.specs.Walks.{is_held}
use Rattle.sig_owner.proofs.Counts.{live_there}
use Rattle.sig_owner.proofs.Rows.{changed_all, changed_here, changed_keeps, changed_length, changed_other, more_before, more_last, row_past}

-- ---- one item more that isn't a holder

plain_held : (m : ℕ) (is : List Item) (i : Item) → IsPlain i → is_held m (is ++ i ∷ []) ≡ is_held m is
plain_held m [] (held k) p = absurd p
plain_held m [] (leaf t) p = refl
plain_held m [] (noted c) p = refl
plain_held m (held k ∷ is) i p = ap (λ b. (m == k) || b) (plain_held m is i p)
plain_held m (leaf t ∷ is) i p = plain_held m is i p
plain_held m (noted c ∷ is) i p = plain_held m is i p

plain_count : (m : ℕ) (is : List Item) (i : Item) → IsPlain i → held_count m (is ++ i ∷ []) ≡ held_count m is
plain_count m [] (held k) p = absurd p
plain_count m [] (leaf t) p = refl
plain_count m [] (noted c) p = refl
plain_count m (held k ∷ is) i p = ap (λ (n : ℕ). cond (m == k) 1 0 + n) (plain_count m is i p)
plain_count m (leaf t ∷ is) i p = plain_count m is i p
plain_count m (noted c ∷ is) i p = plain_count m is i p

plain_leaves : (is : List Item) (i : Item) → IsPlain i → AreLeaves is → AreLeaves (is ++ i ∷ [])
plain_leaves [] (held k) p h = absurd p
plain_leaves [] (leaf t) p h = (p, tt)
plain_leaves [] (noted c) p h = tt
plain_leaves (held k ∷ is) i p h = plain_leaves is i p h
plain_leaves (leaf t ∷ is) i p h = (h.0, plain_leaves is i p h.1)
plain_leaves (noted c ∷ is) i p h = plain_leaves is i p h

count_item : (i : Item) (n : ℕ) (rows : List Row) → owner_count (changed_at (with_item i) n rows) ≡ owner_count rows
count_item i n [] = refl
count_item i zero (r ∷ rs) = refl
count_item i (suc n) (r ∷ rs) = ap (λ (k : ℕ). cond (is_owner_row r) 1 0 + k) (count_item i n rs)

-- edits keep what each row looks like from outside
pub item_holds : (rows : List Row) (owners n : ℕ) (i : Item) → IsPlain i → live_at rows n ≡ true → RowsAgree rows owners → RowsAgree (changed_at (with_item i) n rows) owners
item_holds rows owners n i p live h =
    let f = with_item i in
    let l = changed_keeps (λ r. r.live) f (λ r. refl) n rows in
    let a = changed_keeps (λ r. r.above) f (λ r. refl) n rows in
    let t = changed_keeps (λ r. r.holder) f (λ r. refl) n rows in
    let q : (m k : ℕ) → is_held m (items_at (changed_at f n rows) k) ≡ is_held m (items_at rows k) = λ m. changed_keeps (λ r. is_held m r.items) f (λ r. plain_held m r.items i p) n rows in
    let c : (m k : ℕ) → held_count m (items_at (changed_at f n rows) k) ≡ held_count m (items_at rows k) = λ m. changed_keeps (λ r. held_count m r.items) f (λ r. plain_count m r.items i p) n rows in
    record {
      table = record {
        later = λ k m e. h.table.later k m (sym (q m k) ∙ e);
        lives = λ k m e. l m ∙ h.table.lives k m (sym (q m k) ∙ e);
      };
      count = h.count ∙ sym (count_item i n rows);
      above = λ k m e. a m ∙ h.above k m (sym (q m k) ∙ e);
      once = λ k m e g. c m k ∙ h.once k m (sym (l m) ∙ e) (sym (a m) ∙ g);
      empty = changed_all (λ r. r.live ≡ false → r.items ≡ []) f n rows (λ x e. absurd (true≢false (sym live ∙ e))) h.empty;
      leaves = changed_all (λ r. AreLeaves r.items) f n rows (λ x. plain_leaves (items_at rows n) i p (h.leaves n)) h.leaves;
      kinds = λ k e. ap is_holder (t k) ∙ h.kinds k (sym (l k) ∙ e);
      numbers = λ k m e g. h.numbers k m (sym (l k) ∙ e) (sym (t k) ∙ g);
      names = λ k m e g s. h.names k m (sym (l k) ∙ e) (sym (l m) ∙ g) (sym (λ j. same_thing (t k j) (t m j)) ∙ s);
    }

-- ---- one holder more

held_more : (m : ℕ) (is : List Item) (j : ℕ) → is_held m (is ++ held j ∷ []) ≡ true → (is_held m is ≡ true) ⊎ (m ≡ j)
held_more m [] j e = elim (cases_Bool (m == j)) [ inl q ↦ inr (eqb-true m j q) | inr q ↦ absurd (true≢false (sym (rw q at e))) ]
held_more m (held k ∷ is) j e = elim (cases_Bool (m == k)) [
  | inl q ↦ inl (or_left (m == k) (is_held m is) q)
  | inr q ↦ (let r : is_held m (is ++ held j ∷ []) ≡ true = rw q at e in
      elim (held_more m is j r) [ inl x ↦ inl (or_right (m == k) (is_held m is) x) | inr x ↦ inr x ])
]
held_more m (leaf t ∷ is) j e = held_more m is j e
held_more m (noted c ∷ is) j e = held_more m is j e

count_more : (m : ℕ) (is : List Item) (j : ℕ) → held_count m (is ++ held j ∷ []) ≡ held_count m is + cond (m == j) 1 0
count_more m [] j = omega arith
count_more m (held k ∷ is) j = let ih = count_more m is j in omega (arith, ih)
count_more m (leaf t ∷ is) j = count_more m is j
count_more m (noted c ∷ is) j = count_more m is j

-- what isn't held isn't counted
pub count_none : (m : ℕ) (is : List Item) → is_held m is ≡ false → held_count m is ≡ 0
count_none m [] e = refl
count_none m (held k ∷ is) e = elim (cases_Bool (m == k)) [
  | inl q ↦ absurd (true≢false (sym (or_left (m == k) (is_held m is) q) ∙ e))
  | inr q ↦ (let r : is_held m is ≡ false = rw q at e in let z = count_none m is r in rw q (omega (arith, z)))
]
count_none m (leaf t ∷ is) e = count_none m is e
count_none m (noted c ∷ is) e = count_none m is e

-- what is counted is held
pub held_counted : (m : ℕ) (is : List Item) → held_count m is ≡ 1 → is_held m is ≡ true
held_counted m is e = elim (cases_Bool (is_held m is)) [ inl q ↦ q | inr q ↦ absurd (let z = count_none m is q in omega (arith, z, e)) ]

leaves_more : (is : List Item) (j : ℕ) → AreLeaves is → AreLeaves (is ++ held j ∷ [])
leaves_more [] j h = tt
leaves_more (held k ∷ is) j h = leaves_more is j h
leaves_more (leaf t ∷ is) j h = (h.0, leaves_more is j h.1)
leaves_more (noted c ∷ is) j h = leaves_more is j h

pub inside_keeps : {A : Type 0} (P : Row → A) (inside : Option ℕ) (i : Item) → ((r : Row) → P (with_item i r) ≡ P r) → (rows : List Row) (k : ℕ) → P (row_at (put_inside inside i rows) k) ≡ P (row_at rows k)
inside_keeps P None i h rows k = refl
inside_keeps P (Some o) i h rows k = changed_keeps P (with_item i) h o rows k

pub inside_length : (inside : Option ℕ) (i : Item) (rows : List Row) → length (put_inside inside i rows) ≡ length rows
inside_length None i rows = refl
inside_length (Some o) i rows = changed_length (with_item i) o rows

-- the items of a row are those of before, or it is the row in which one more was put
pub inside_items : (inside : Option ℕ) (i : Item) (rows : List Row) (k : ℕ) → is_open rows inside ≡ true →
    ((inside ≡ Some k → ⊥) × (items_at (put_inside inside i rows) k ≡ items_at rows k)) ⊎ ((inside ≡ Some k) × (items_at (put_inside inside i rows) k ≡ items_at rows k ++ i ∷ []))
inside_items None i rows k may = inl ((λ e. cc), refl)
inside_items (Some o) i rows k may = elim (cases_eq o k) [
  | inl e ↦ inr (ap Some e, subst (λ n. items_at (changed_at (with_item i) o rows) n ≡ items_at rows n ++ i ∷ []) e (ap (λ (r : Row). r.items) (changed_here (with_item i) o rows (live_there rows o may))))
  | inr ne ↦ inl ((λ (e : Some o ≡ Some k). ne (cc)), ap (λ (r : Row). r.items) (changed_other (with_item i) o k rows ne))
]

pub same_refl : (a : Thing) → same_thing a a ≡ true
same_refl (the_signal n) = eq-eqb n n refl
same_refl (the_owner n) = eq-eqb n n refl
same_refl (the_effect n) = eq-eqb n n refl
same_refl (the_page n) = eq-eqb n n refl
same_refl (the_watcher n) = eq-eqb n n refl

eqb_sym : (m n : ℕ) → (m == n) ≡ (n == m)
eqb_sym m n = elim (cases_eq m n) [ inl e ↦ eq-eqb m n e ∙ sym (eq-eqb n m (sym e)) | inr ne ↦ ne_eqb m n ne ∙ sym (ne_eqb n m (λ e. ne (sym e))) ]

pub same_sym : (a b : Thing) → same_thing a b ≡ same_thing b a
same_sym (the_signal m) (the_signal n) = eqb_sym m n
same_sym (the_owner m) (the_owner n) = eqb_sym m n
same_sym (the_effect m) (the_effect n) = eqb_sym m n
same_sym (the_page m) (the_page n) = eqb_sym m n
same_sym (the_watcher m) (the_watcher n) = eqb_sym m n
same_sym _ _ = refl

count_last : (rows : List Row) (r : Row) → owner_count (rows ++ r ∷ []) ≡ owner_count rows + cond (is_owner_row r) 1 0
count_last [] r = omega arith
count_last (q ∷ rs) r = let ih = count_last rs r in omega (arith, ih)

count_inside : (inside : Option ℕ) (i : Item) (rows : List Row) → owner_count (put_inside inside i rows) ≡ owner_count rows
count_inside None i rows = refl
count_inside (Some o) i rows = count_item i o rows

-- the new row, or one of before
pub holder_row : (rows : List Row) (inside : Option ℕ) (t : Thing) (k : ℕ) →
    ((k ≡ length rows → ⊥) × (row_at (with_holder rows inside t) k ≡ row_at (put_inside inside (held (length rows)) rows) k))
    ⊎ ((k ≡ length rows) × (row_at (with_holder rows inside t) k ≡ above_row t inside))
holder_row rows inside t k =
    let l = inside_length inside (held (length rows)) rows in
    let xs = put_inside inside (held (length rows)) rows in
    elim (cases_eq k (length rows)) [
      | inl e ↦ inr (e, more_last xs (above_row t inside) k (e ∙ sym l))
      | inr ne ↦ inl (ne, by ne (cases_lt k (length rows)))
    ]
  where
    by : (k ≡ length rows → ⊥) → (k < length rows) ⊎ (length rows ≤ k) → row_at (with_holder rows inside t) k ≡ row_at (put_inside inside (held (length rows)) rows) k
    by ne (inl lt) = more_before (put_inside inside (held (length rows)) rows) (above_row t inside) k (let l = inside_length inside (held (length rows)) rows in omega (arith, l, lt))
    by ne (inr le) =
        let l = inside_length inside (held (length rows)) rows in
        let a = length-append (put_inside inside (held (length rows)) rows) (above_row t inside ∷ []) in
        row_past (with_holder rows inside t) k (omega (arith, l, a, le, ne)) ∙ sym (row_past (put_inside inside (held (length rows)) rows) k (omega (arith, l, le)))

-- a thing that no holder is yet, an owner under the next number
pub record IsNew (rows : List Row) (t : Thing) : Type 0 where
  pub kind : is_holder t ≡ true
  pub number : (k : ℕ) → t ≡ the_owner k → k ≡ length rows
  pub fresh : (n : ℕ) → live_at rows n ≡ true → same_thing t (thing_at rows n) ≡ true → ⊥

module _ (rows : List Row) (owners : ℕ) (inside : Option ℕ) (t : Thing) (new : IsNew rows t) (may : is_open rows inside ≡ true) (h : RowsAgree rows owners) where
  pub size : length (with_holder rows inside t) ≡ length rows + 1
  size = let a = length-append (put_inside inside (held (length rows)) rows) (above_row t inside ∷ []) in let l = inside_length inside (held (length rows)) rows in omega (arith, a, l)

  pub last : (n : ℕ) → n ≡ length rows → row_at (with_holder rows inside t) n ≡ above_row t inside
  last n e = elim (holder_row rows inside t n) [ inl x ↦ absurd (x.0 e) | inr x ↦ x.1 ]

  pub row : (n : ℕ) → (n ≡ length rows → ⊥) → row_at (with_holder rows inside t) n ≡ row_at (put_inside inside (held (length rows)) rows) n
  row n ne = elim (holder_row rows inside t n) [ inl x ↦ x.1 | inr x ↦ absurd (ne x.0) ]

  live : (n : ℕ) → (n ≡ length rows → ⊥) → live_at (with_holder rows inside t) n ≡ live_at rows n
  live n ne = ap (λ (r : Row). r.live) (row n ne) ∙ inside_keeps (λ r. r.live) inside (held (length rows)) (λ r. refl) rows n

  above : (n : ℕ) → (n ≡ length rows → ⊥) → above_at (with_holder rows inside t) n ≡ above_at rows n
  above n ne = ap (λ (r : Row). r.above) (row n ne) ∙ inside_keeps (λ r. r.above) inside (held (length rows)) (λ r. refl) rows n

  pub name : (n : ℕ) → (n ≡ length rows → ⊥) → thing_at (with_holder rows inside t) n ≡ thing_at rows n
  name n ne = ap (λ (r : Row). r.holder) (row n ne) ∙ inside_keeps (λ r. r.holder) inside (held (length rows)) (λ r. refl) rows n

  within : (n : ℕ) → inside ≡ Some n → n < length rows
  within n e = live_there rows n (sym (ap (is_open rows) e) ∙ may)

  other : (n m : ℕ) → is_held m (items_at rows n) ≡ true → m ≡ length rows → ⊥
  other n m e q = let l = live_there rows m (h.table.lives n m e) in omega (arith, l, q)

  stood : (n m : ℕ) → is_held m (items_at (with_holder rows inside t) n) ≡ true → (is_held m (items_at rows n) ≡ true) ⊎ ((m ≡ length rows) × (inside ≡ Some n))
  stood n m e = elim (holder_row rows inside t n) [
    | inl x ↦ (let f : is_held m (items_at (put_inside inside (held (length rows)) rows) n) ≡ true = sym (ap (λ (r : Row). is_held m r.items) x.1) ∙ e in
        elim (inside_items inside (held (length rows)) rows n may) [
          | inl y ↦ inl (sym (ap (is_held m) y.1) ∙ f)
          | inr y ↦ elim (held_more m (items_at rows n) (length rows) (sym (ap (is_held m) y.1) ∙ f)) [ inl z ↦ inl z | inr z ↦ inr (z, y.0) ]
        ])
    | inr x ↦ absurd (true≢false (sym e ∙ ap (λ (r : Row). is_held m r.items) x.1))
  ]

  none_yet : (n : ℕ) → held_count (length rows) (items_at rows n) ≡ 0
  none_yet n = count_none (length rows) (items_at rows n) (elim (cases_Bool (is_held (length rows) (items_at rows n))) [ inl x ↦ absurd (other n (length rows) x refl) | inr x ↦ x ])

  once_last : (n m : ℕ) → m ≡ length rows → above_at (with_holder rows inside t) m ≡ Some n → held_count m (items_at (with_holder rows inside t) n) ≡ 1
  once_last n m e a =
      let q : inside ≡ Some n = sym (ap (λ (r : Row). r.above) (last m e)) ∙ a in
      let l : n ≡ length rows → ⊥ = λ x. (let k = within n q in omega (arith, k, x)) in
      elim (inside_items inside (held (length rows)) rows n may) [
        | inl y ↦ absurd (y.0 q)
        | inr y ↦ (let c = count_more m (items_at rows n) (length rows) in
            let z = none_yet n in
            let b = eq-eqb m (length rows) e in
            ap (λ (r : Row). held_count m r.items) (row n l) ∙ (ap (held_count m) y.1 ∙ (c ∙ rw b (ap (λ (k : ℕ). held_count k (items_at rows n) + 1) e ∙ ap (λ (k : ℕ). k + 1) z))))
      ]

  once_other : (n m : ℕ) → (m ≡ length rows → ⊥) → live_at (with_holder rows inside t) m ≡ true → above_at (with_holder rows inside t) m ≡ Some n → held_count m (items_at (with_holder rows inside t) n) ≡ 1
  once_other n m ne l a =
      let o = h.once n m (sym (live m ne) ∙ l) (sym (above m ne) ∙ a) in
      let k : n ≡ length rows → ⊥ = λ e. (let p = row_past rows n (let z : length rows ≤ n = omega (arith, e) in z) in let c = ap (λ (r : Row). held_count m r.items) p in omega (arith, o, c)) in
      elim (inside_items inside (held (length rows)) rows n may) [
        | inl y ↦ ap (λ (r : Row). held_count m r.items) (row n k) ∙ (ap (held_count m) y.1 ∙ o)
        | inr y ↦ (let c = count_more m (items_at rows n) (length rows) in
            let b = ne_eqb m (length rows) ne in
            ap (λ (r : Row). held_count m r.items) (row n k) ∙ (ap (held_count m) y.1 ∙ (c ∙ rw b (let z : held_count m (items_at rows n) + 0 ≡ 1 = omega (arith, o) in z))))
      ]

  empty_other : (n : ℕ) → live_at rows n ≡ false → items_at (put_inside inside (held (length rows)) rows) n ≡ []
  empty_other n e = elim (inside_items inside (held (length rows)) rows n may) [
    | inl y ↦ y.1 ∙ h.empty n e
    | inr y ↦ absurd (true≢false (sym (sym (ap (is_open rows) y.0) ∙ may) ∙ e))
  ]

  leaves_inside : (n : ℕ) → AreLeaves (items_at (put_inside inside (held (length rows)) rows) n)
  leaves_inside n = elim (inside_items inside (held (length rows)) rows n may) [
    | inl y ↦ subst AreLeaves (sym y.1) (h.leaves n)
    | inr y ↦ subst AreLeaves (sym y.1) (leaves_more (items_at rows n) (length rows) (h.leaves n))
  ]

  pub holder_holds : RowsAgree (with_holder rows inside t) (owners + cond (is_owner t) 1 0)
  holder_holds = record {
    table = record {
      later = λ n m e. elim (stood n m e) [ inl x ↦ h.table.later n m x | inr x ↦ (let l = within n x.1 in omega (arith, l, x.0)) ];
      lives = λ n m e. elim (stood n m e) [ inl x ↦ live m (other n m x) ∙ h.table.lives n m x | inr x ↦ ap (λ (r : Row). r.live) (last m x.0) ];
    };
    count = ap (λ (k : ℕ). k + cond (is_owner t) 1 0) (h.count ∙ sym (count_inside inside (held (length rows)) rows)) ∙ sym (count_last (put_inside inside (held (length rows)) rows) (above_row t inside));
    above = λ n m e. elim (stood n m e) [ inl x ↦ above m (other n m x) ∙ h.above n m x | inr x ↦ ap (λ (r : Row). r.above) (last m x.0) ∙ x.1 ];
    once = λ n m l a. elim (cases_eq m (length rows)) [ inl e ↦ once_last n m e a | inr ne ↦ once_other n m ne l a ];
    empty = λ n e. elim (holder_row rows inside t n) [
      | inl x ↦ ap (λ (r : Row). r.items) x.1 ∙ empty_other n (sym (live n x.0) ∙ e)
      | inr x ↦ absurd (true≢false (sym (ap (λ (r : Row). r.live) x.1) ∙ e))
    ];
    leaves = λ n. elim (holder_row rows inside t n) [
      | inl x ↦ subst (λ (r : Row). AreLeaves r.items) (sym x.1) (leaves_inside n)
      | inr x ↦ subst (λ (r : Row). AreLeaves r.items) (sym x.1) tt
    ];
    kinds = λ n e. elim (cases_eq n (length rows)) [
      | inl q ↦ ap (λ (r : Row). is_holder r.holder) (last n q) ∙ new.kind
      | inr ne ↦ ap is_holder (name n ne) ∙ h.kinds n (sym (live n ne) ∙ e)
    ];
    numbers = λ n k e g. elim (cases_eq n (length rows)) [
      | inl q ↦ new.number k (sym (ap (λ (r : Row). r.holder) (last n q)) ∙ g) ∙ sym q
      | inr ne ↦ h.numbers n k (sym (live n ne) ∙ e) (sym (name n ne) ∙ g)
    ];
    names = λ n m e g s. elim (cases_eq n (length rows)) [
      | inl q ↦ elim (cases_eq m (length rows)) [
        | inl r ↦ q ∙ sym r
        | inr ne ↦ absurd (new.fresh m (sym (live m ne) ∙ g) (sym (λ j. same_thing (ap (λ (x : Row). x.holder) (last n q) j) (name m ne j)) ∙ s))
      ]
      | inr apart ↦ elim (cases_eq m (length rows)) [
        | inl r ↦ absurd (new.fresh n (sym (live n apart) ∙ e) (same_sym t (thing_at rows n) ∙ (sym (λ j. same_thing (name n apart j) (ap (λ (x : Row). x.holder) (last m r) j)) ∙ s)))
        | inr ne ↦ h.names n m (sym (live n apart) ∙ e) (sym (live m ne) ∙ g) (sym (λ j. same_thing (name n apart j) (name m ne j)) ∙ s)
      ]
    ];
  }

pub same_true : (a b : Thing) → same_thing a b ≡ true → a ≡ b
same_true (the_signal m) (the_signal n) e = ap the_signal (eqb-true m n e)
same_true (the_owner m) (the_owner n) e = ap the_owner (eqb-true m n e)
same_true (the_effect m) (the_effect n) e = ap the_effect (eqb-true m n e)
same_true (the_page m) (the_page n) e = ap the_page (eqb-true m n e)
same_true (the_watcher m) (the_watcher n) e = ap the_watcher (eqb-true m n e)
same_true _ _ e = absurd (cc)

-- the owner under the next number is new
pub new_owner : (rows : List Row) (owners n : ℕ) → n ≡ length rows → RowsAgree rows owners → IsNew rows (the_owner n)
new_owner rows owners n e h = record {
  kind = refl;
  number = λ k q. (let s : n ≡ k = cc in sym s ∙ e);
  fresh = λ m l s. (let q = h.numbers m n l (sym (same_true (the_owner n) (thing_at rows m) s)) in let k = live_there rows m l in omega (arith, q, e, k));
}
