-- One thing is taken out of the rows, and nothing else.
use Rattle.std.proofs.Common.{◌≡◌, ℕ, zero, suc, ◌+◌, ◌<◌, ◌==◌, Bool, true, false, List, [], ◌∷◌, length, map, Option, Some, None, inl, inr, eq-eqb, refl, sym, ap, subst, ◌∙◌, arith, cond}
use Rattle.std.specs.Prelude.{filter, not, IfSome}
use Rattle.std.proofs.lemmas.Bool.{cases_Bool, cases_eq, cases_lt, ne_eqb, or_left, or_right, true≢false}
use Rattle.effect_model.specs.Owners.{Thing, the_owner, the_effect, same_thing, is_holder}
use Rattle.sig_owner.specs.declared.thing.Thing.{Thing as AThing}
use Rattle.sig_owner.specs.declared.thing.Thing.TheVariants as a
use Rattle.sig_owner.specs.Keys.{hinted, same_key, same_key-true}
use Rattle.sig_owner.specs.Removals.{is_held_of, is_leaf_of, sifted_inside, sifted_row}
use Rattle.sig_owner.specs.Tables.{IsBare, Item, held, leaf, noted, Row, above_at, changed_at, dropped, dropped_row, ended_row, is_row_of, items_at, live_at, no_row, owner_count, row_at, thing_at, thing_of, without}
use Rattle.sig_owner.specs.Places.{AreLeaves, ArePlaced, RowsAgree, Keeps, has_leaf, held_count}
use Rattle.sig_owner.specs.Walks.{is_held}
use Rattle.sig_owner.proofs.Counts.{live_there, sifted_length}
use Rattle.sig_owner.proofs.Consistency.{same_refl, same_true}
use Rattle.sig_owner.proofs.Placement.{leaf_kind}
use Rattle.sig_owner.proofs.Rows.{changed_here, changed_keeps, changed_length, changed_other, row_past}

-- ---- rows as lists

mapped_at : (f : Row → Row) → f no_row ≡ no_row → (rows : List Row) (k : ℕ) → row_at (map f rows) k ≡ f (row_at rows k)
mapped_at f z [] k = sym z
mapped_at f z (r ∷ rs) zero = refl
mapped_at f z (r ∷ rs) (suc k) = mapped_at f z rs k

mapped_length : (f : Row → Row) (rows : List Row) → length (map f rows) ≡ length rows
mapped_length f [] = refl
mapped_length f (r ∷ rs) = ap suc (mapped_length f rs)

-- lists of rows that look alike
rows_alike : (xs ys : List Row) → length xs ≡ length ys → ((k : ℕ) → row_at xs k ≡ row_at ys k) → xs ≡ ys
rows_alike [] [] l h = refl
rows_alike [] (y ∷ ys) l h = absurd (omega arith)
rows_alike (x ∷ xs) [] l h = absurd (omega arith)
rows_alike (x ∷ xs) (y ∷ ys) l h = let t = rows_alike xs ys (let m : length xs ≡ length ys = omega arith in m) (λ k. h (suc k)) in (λ i. h 0 i ∷ t i)

pub dropped_length : (t : Thing) (rows : List Row) → length (dropped t rows) ≡ length rows
dropped_length t rows = mapped_length (dropped_row (thing_at rows) t) rows

pub dropped_at : (t : Thing) (rows : List Row) (k : ℕ) → row_at (dropped t rows) k ≡ dropped_row (thing_at rows) t (row_at rows k)
dropped_at t rows k = mapped_at (dropped_row (thing_at rows) t) refl rows k

-- ---- items

pub without_same : (names : ℕ → Thing) (t : Thing) (is : List Item) → ((m : ℕ) → is_held m is ≡ true → same_thing t (names m) ≡ false) → has_leaf t is ≡ false → without names t is ≡ is
without_same names t [] h e = refl
without_same names t (held k ∷ is) h e = rw (h k (or_left (k == k) (is_held k is) (eq-eqb k k refl))) (ap (λ js. held k ∷ js) (without_same names t is (λ m q. h m (or_right (m == k) (is_held m is) q)) e))
without_same names t (noted c ∷ is) h e = ap (λ js. noted c ∷ js) (without_same names t is h e)
without_same names t (leaf u ∷ is) h e = elim (cases_Bool (same_thing t u)) [
  | inl q ↦ absurd (true≢false (sym (or_left (same_thing t u) (has_leaf t is) q) ∙ e))
  | inr q ↦ (let r : has_leaf t is ≡ false = rw q at e in rw q (ap (λ js. leaf u ∷ js) (without_same names t is h r)))
]

turned : {A : Type 0} (b : Bool) (x y : A) → cond (not b) x y ≡ cond b y x
turned true x y = refl
turned false x y = refl

sift_leaf : (names : ℕ → Thing) (t : AThing) (is : List Item) → ((m : ℕ) → is_held m is ≡ true → same_thing (thing_of t) (names m) ≡ false) → filter (λ i. not (is_leaf_of t i)) is ≡ without names (thing_of t) is
sift_leaf names t [] h = refl
sift_leaf names t (held k ∷ is) h = rw (h k (or_left (k == k) (is_held k is) (eq-eqb k k refl))) (ap (λ js. held k ∷ js) (sift_leaf names t is (λ m q. h m (or_right (m == k) (is_held m is) q))))
sift_leaf names t (noted c ∷ is) h = ap (λ js. noted c ∷ js) (sift_leaf names t is h)
sift_leaf names t (leaf u ∷ is) h =
    let ih = sift_leaf names t is h in
    turned (same_thing (thing_of t) u) (leaf u ∷ filter (λ i. not (is_leaf_of t i)) is) (filter (λ i. not (is_leaf_of t i)) is) ∙ (λ j. cond (same_thing (thing_of t) u) (ih j) (leaf u ∷ ih j))

sift_held : (names : ℕ → Thing) (t : Thing) (id : ℕ) (is : List Item) → ((m : ℕ) → is_held m is ≡ true → same_thing t (names m) ≡ (m == id)) → has_leaf t is ≡ false → filter (λ i. not (is_held_of id i)) is ≡ without names t is
sift_held names t id [] h e = refl
sift_held names t id (held k ∷ is) h e =
    let ih = sift_held names t id is (λ m q. h m (or_right (m == k) (is_held m is) q)) e in
    let here = h k (or_left (k == k) (is_held k is) (eq-eqb k k refl)) in
    turned (k == id) (held k ∷ filter (λ i. not (is_held_of id i)) is) (filter (λ i. not (is_held_of id i)) is) ∙ (λ j. cond (sym here j) (ih j) (held k ∷ ih j))
sift_held names t id (noted c ∷ is) h e = ap (λ js. noted c ∷ js) (sift_held names t id is h e)
sift_held names t id (leaf u ∷ is) h e = elim (cases_Bool (same_thing t u)) [
  | inl q ↦ absurd (true≢false (sym (or_left (same_thing t u) (has_leaf t is) q) ∙ e))
  | inr q ↦ (let r : has_leaf t is ≡ false = rw q at e in rw q (ap (λ js. leaf u ∷ js) (sift_held names t id is h r)))
]

-- what is left was there, and isn't the thing
pub held_left : (names : ℕ → Thing) (t : Thing) (m : ℕ) (is : List Item) → is_held m (without names t is) ≡ true → (is_held m is ≡ true) × (same_thing t (names m) ≡ false)
held_left names t m [] e = absurd (true≢false (sym e))
held_left names t m (noted c ∷ is) e = held_left names t m is e
held_left names t m (leaf u ∷ is) e = elim (cases_Bool (same_thing t u)) [
  | inl q ↦ held_left names t m is (let r : is_held m (without names t is) ≡ true = rw q at e in r)
  | inr q ↦ held_left names t m is (let r : is_held m (without names t is) ≡ true = rw q at e in r)
]
held_left names t m (held k ∷ is) e = elim (cases_Bool (same_thing t (names k))) [
  | inl q ↦ (let x = held_left names t m is (let r : is_held m (without names t is) ≡ true = rw q at e in r) in (or_right (m == k) (is_held m is) x.0, x.1))
  | inr q ↦ elim (cases_eq m k) [
    | inl w ↦ (or_left (m == k) (is_held m is) (eq-eqb m k w), ap (λ j. same_thing t (names j)) w ∙ q)
    | inr w ↦ (let n = ne_eqb m k w in let x = held_left names t m is (let r : is_held m (without names t is) ≡ true = rw (q, n) at e in r) in (or_right (m == k) (is_held m is) x.0, x.1))
  ]
]

count_left : (names : ℕ → Thing) (t : Thing) (m : ℕ) (is : List Item) → same_thing t (names m) ≡ false → held_count m (without names t is) ≡ held_count m is
count_left names t m [] e = refl
count_left names t m (noted c ∷ is) e = count_left names t m is e
count_left names t m (leaf u ∷ is) e = elim (cases_Bool (same_thing t u)) [ inl q ↦ rw q (count_left names t m is e) | inr q ↦ rw q (count_left names t m is e) ]
count_left names t m (held k ∷ is) e = elim (cases_Bool (same_thing t (names k))) [
  | inl q ↦ (let w : m ≡ k → ⊥ = λ x. true≢false (sym q ∙ (sym (ap (λ j. same_thing t (names j)) x) ∙ e)) in
      let n = ne_eqb m k w in let ih = count_left names t m is e in rw (q, n) (omega (arith, ih)))
  | inr q ↦ (let ih = count_left names t m is e in rw q (ap (λ (j : ℕ). cond (m == k) 1 0 + j) ih))
]

leaves_left : (names : ℕ → Thing) (t : Thing) (is : List Item) → AreLeaves is → AreLeaves (without names t is)
leaves_left names t [] h = tt
leaves_left names t (noted c ∷ is) h = leaves_left names t is h
leaves_left names t (leaf u ∷ is) h = elim (cases_Bool (same_thing t u)) [ inl q ↦ rw q (leaves_left names t is h.1) | inr q ↦ rw q (h.0, leaves_left names t is h.1) ]
leaves_left names t (held k ∷ is) h = elim (cases_Bool (same_thing t (names k))) [ inl q ↦ rw q (leaves_left names t is h) | inr q ↦ rw q (leaves_left names t is h) ]

leaf_left : (names : ℕ → Thing) (t u : Thing) (is : List Item) → has_leaf u (without names t is) ≡ true → has_leaf u is ≡ true
leaf_left names t u [] e = e
leaf_left names t u (noted c ∷ is) e = leaf_left names t u is e
leaf_left names t u (held k ∷ is) e = elim (cases_Bool (same_thing t (names k))) [
  | inl q ↦ leaf_left names t u is (let r : has_leaf u (without names t is) ≡ true = rw q at e in r)
  | inr q ↦ leaf_left names t u is (let r : has_leaf u (without names t is) ≡ true = rw q at e in r)
]
leaf_left names t u (leaf v ∷ is) e = elim (cases_Bool (same_thing t v)) [
  | inl q ↦ or_right (same_thing u v) (has_leaf u is) (leaf_left names t u is (let r : has_leaf u (without names t is) ≡ true = rw q at e in r))
  | inr q ↦ elim (cases_Bool (same_thing u v)) [
    | inl w ↦ or_left (same_thing u v) (has_leaf u is) w
    | inr w ↦ or_right (same_thing u v) (has_leaf u is) (leaf_left names t u is (let r : has_leaf u (without names t is) ≡ true = rw (q, w) at e in r))
  ]
]

-- ---- one row

pub row_out : (names : ℕ → Thing) (t : Thing) (r : Row) → is_row_of t r ≡ true → dropped_row names t r ≡ ended_row r
row_out names t r e = rw e refl

pub row_in : (names : ℕ → Thing) (t : Thing) (r : Row) → is_row_of t r ≡ false → dropped_row names t r ≡ record r { items = without names t r.items }
row_in names t r e = rw e refl

row_alive : (t : Thing) (r : Row) → r.live ≡ true → is_row_of t r ≡ same_thing t r.holder
row_alive t r e = rw e refl

pub row_is : (t : Thing) (r : Row) → is_row_of t r ≡ true → (r.live ≡ true) × (same_thing t r.holder ≡ true)
row_is t r e = elim (cases_Bool r.live) [ inl q ↦ (q, (let s : same_thing t r.holder ≡ true = rw q at e in s)) | inr q ↦ absurd (true≢false (sym (let s : false ≡ true = rw q at e in s))) ]

-- ---- what holds afterwards

module _ (rows : List Row) (owners left : ℕ) (t : Thing) (h : RowsAgree rows owners) where
  pub in_kept : (k : ℕ) → is_row_of t (row_at rows k) ≡ false → row_at (dropped t rows) k ≡ record (row_at rows k) { items = without (thing_at rows) t (items_at rows k) }
  in_kept k q = dropped_at t rows k ∙ row_in (thing_at rows) t (row_at rows k) q

  pub name_kept : (k : ℕ) → is_row_of t (row_at rows k) ≡ false → thing_at (dropped t rows) k ≡ thing_at rows k
  name_kept k q = ap (λ (r : Row). r.holder) (in_kept k q)

  above_kept : (k : ℕ) → is_row_of t (row_at rows k) ≡ false → above_at (dropped t rows) k ≡ above_at rows k
  above_kept k q = ap (λ (r : Row). r.above) (in_kept k q)

  pub out_gone : (k : ℕ) → is_row_of t (row_at rows k) ≡ true → row_at (dropped t rows) k ≡ ended_row (row_at rows k)
  out_gone k q = dropped_at t rows k ∙ row_out (thing_at rows) t (row_at rows k) q

  pub lived : (k : ℕ) → live_at (dropped t rows) k ≡ true → (live_at rows k ≡ true) × (is_row_of t (row_at rows k) ≡ false)
  lived k e = elim (cases_Bool (is_row_of t (row_at rows k))) [
    | inl q ↦ absurd (true≢false (sym e ∙ ap (λ (r : Row). r.live) (out_gone k q)))
    | inr q ↦ (sym (ap (λ (r : Row). r.live) (in_kept k q)) ∙ e, q)
  ]

  was_held : (n m : ℕ) → is_held m (items_at (dropped t rows) n) ≡ true → (is_held m (items_at rows n) ≡ true) × (same_thing t (thing_at rows m) ≡ false)
  was_held n m e = elim (cases_Bool (is_row_of t (row_at rows n))) [
    | inl q ↦ absurd (true≢false (sym e ∙ ap (λ (r : Row). is_held m r.items) (out_gone n q)))
    | inr q ↦ held_left (thing_at rows) t m (items_at rows n) (sym (ap (λ (r : Row). is_held m r.items) (in_kept n q)) ∙ e)
  ]

  pub other_row : (m : ℕ) → live_at rows m ≡ true → same_thing t (thing_at rows m) ≡ false → is_row_of t (row_at rows m) ≡ false
  other_row m l e = row_alive t (row_at rows m) l ∙ e

  still_lives : (m : ℕ) → live_at rows m ≡ true → same_thing t (thing_at rows m) ≡ false → live_at (dropped t rows) m ≡ true
  still_lives m l e = ap (λ (r : Row). r.live) (in_kept m (other_row m l e)) ∙ l

  pub dropped_holds : IsBare rows t → left ≡ owner_count (dropped t rows) → RowsAgree (dropped t rows) left
  dropped_holds bare counted = record {
    table = record {
      later = λ n m e. h.table.later n m (was_held n m e).0;
      lives = λ n m e. let w = was_held n m e in still_lives m (h.table.lives n m w.0) w.1;
    };
    count = counted;
    above = λ n m e. let w = was_held n m e in above_kept m (other_row m (h.table.lives n m w.0) w.1) ∙ h.above n m w.0;
    once = λ n m e a.
        let l = lived m e in
        let c = h.once n m l.0 (sym (above_kept m l.1) ∙ a) in
        let off : same_thing t (thing_at rows m) ≡ false = sym (row_alive t (row_at rows m) l.0) ∙ l.1 in
        elim (cases_Bool (is_row_of t (row_at rows n))) [
          | inl q ↦ (let r = row_is t (row_at rows n) q in
              let none = ap (held_count m) (bare n r.0 r.1) in absurd (omega (arith, c, none)))
          | inr q ↦ ap (λ (r : Row). held_count m r.items) (in_kept n q) ∙ (count_left (thing_at rows) t m (items_at rows n) off ∙ c)
        ];
    empty = λ n e. elim (cases_Bool (is_row_of t (row_at rows n))) [
      | inl q ↦ ap (λ (r : Row). r.items) (out_gone n q)
      | inr q ↦ ap (λ (r : Row). r.items) (in_kept n q) ∙ ap (without (thing_at rows) t) (h.empty n (sym (ap (λ (r : Row). r.live) (in_kept n q)) ∙ e))
    ];
    leaves = λ n. elim (cases_Bool (is_row_of t (row_at rows n))) [
      | inl q ↦ subst (λ (r : Row). AreLeaves r.items) (sym (out_gone n q)) tt
      | inr q ↦ subst (λ (r : Row). AreLeaves r.items) (sym (in_kept n q)) (leaves_left (thing_at rows) t (items_at rows n) (h.leaves n))
    ];
    kinds = λ n e. let l = lived n e in ap is_holder (name_kept n l.1) ∙ h.kinds n l.0;
    numbers = λ n k e g. let l = lived n e in h.numbers n k l.0 (sym (name_kept n l.1) ∙ g);
    names = λ n m e g s. let l = lived n e in let x = lived m g in h.names n m l.0 x.0 (sym (λ j. same_thing (name_kept n l.1 j) (name_kept m x.1 j)) ∙ s);
  }

  leaf_was : (n : ℕ) (u : Thing) → has_leaf u (items_at (dropped t rows) n) ≡ true → has_leaf u (items_at rows n) ≡ true
  leaf_was n u e = elim (cases_Bool (is_row_of t (row_at rows n))) [
    | inl q ↦ absurd (true≢false (sym e ∙ ap (λ (r : Row). has_leaf u r.items) (out_gone n q)))
    | inr q ↦ leaf_left (thing_at rows) t u (items_at rows n) (sym (ap (λ (r : Row). has_leaf u r.items) (in_kept n q)) ∙ e)
  ]

-- the thing is no longer among the items
none_left : (names : ℕ → Thing) (t : Thing) (is : List Item) → has_leaf t (without names t is) ≡ false
none_left names t [] = refl
none_left names t (noted c ∷ is) = none_left names t is
none_left names t (held k ∷ is) = elim (cases_Bool (same_thing t (names k))) [ inl q ↦ rw q (none_left names t is) | inr q ↦ rw q (none_left names t is) ]
none_left names t (leaf u ∷ is) = elim (cases_Bool (same_thing t u)) [ inl q ↦ rw q (none_left names t is) | inr q ↦ rw (q, q) (none_left names t is) ]

module _ (rows : List Row) (owners left : ℕ) (place place' : AThing → Option ℕ) (t : AThing) (forgot : (s : AThing) → place' s ≡ cond (same_key t s) None (place s)) (k : Keeps rows owners place) where
  leaf_stays : (n : ℕ) (s : AThing) → has_leaf (thing_of s) (items_at (dropped (thing_of t) rows) n) ≡ true → place' s ≡ Some n
  leaf_stays n s e = forgot s ∙ elim (cases_Bool (same_key t s)) [
    | inl q ↦ absurd (true≢false (sym (ap (λ x. has_leaf (thing_of x) (items_at (dropped (thing_of t) rows) n)) (same_key-true t s q) ∙ e) ∙ off))
    | inr q ↦ rw q (k.placed.leaves n s (leaf_was rows owners left (thing_of t) k.holds n (thing_of s) e))
  ]
    where
      off : has_leaf (thing_of t) (items_at (dropped (thing_of t) rows) n) ≡ false
      off = elim (cases_Bool (is_row_of (thing_of t) (row_at rows n))) [
        | inl q ↦ ap (λ (r : Row). has_leaf (thing_of t) r.items) (out_gone rows owners left (thing_of t) k.holds n q)
        | inr q ↦ ap (λ (r : Row). has_leaf (thing_of t) r.items) (in_kept rows owners left (thing_of t) k.holds n q) ∙ none_left (thing_at rows) (thing_of t) (items_at rows n)
      ]

  effect_stays : (n e : ℕ) → live_at (dropped (thing_of t) rows) n ≡ true → thing_at rows n ≡ the_effect e → place' (a.Effect e) ≡ Some n
  effect_stays n e l q =
      let was = lived rows owners left (thing_of t) k.holds n l in
      forgot (a.Effect e) ∙ elim (cases_Bool (same_key t (a.Effect e))) [
        | inl s ↦ (let same = ap thing_of (same_key-true t (a.Effect e) s) ∙ sym q in
            absurd (true≢false (sym (row_alive (thing_of t) (row_at rows n) was.0 ∙ (ap (λ x. same_thing x (thing_at rows n)) same ∙ same_refl (thing_at rows n))) ∙ was.1)))
        | inr s ↦ rw s (k.placed.effects n e was.0 q)
      ]

  pub dropped_kept : (rows' : List Row) → IsBare rows (thing_of t) → rows' ≡ dropped (thing_of t) rows → left ≡ owner_count rows' → Keeps rows' left place'
  dropped_kept rows' bare e n = record {
    holds = subst (λ rs. RowsAgree rs left) (sym e) (dropped_holds rows owners left (thing_of t) k.holds bare (n ∙ ap owner_count e));
    placed = subst (λ rs. ArePlaced rs place') (sym e) (record {
      leaves = leaf_stays;
      effects = λ m c l q. effect_stays m c l (sym (name_kept rows owners left (thing_of t) k.holds m (lived rows owners left (thing_of t) k.holds m l).1) ∙ q);
    });
  }

-- ---- the three ways in which it is done

-- a holder that lives has its row where the hint says
pub hint_row : (rows : List Row) (owners : ℕ) (place : AThing → Option ℕ) (t : AThing) (k : ℕ) → Keeps rows owners place → is_row_of (thing_of t) (row_at rows k) ≡ true → hinted place t ≡ Some k
hint_row rows owners place (a.Owner n) k h e =
    let r = row_is (the_owner n) (row_at rows k) e in
    ap Some (h.holds.numbers k n r.0 (sym (same_true (the_owner n) (thing_at rows k) r.1)))
hint_row rows owners place (a.Effect n) k h e =
    let r = row_is (the_effect n) (row_at rows k) e in
    h.placed.effects k n r.0 (sym (same_true (the_effect n) (thing_at rows k) r.1))
hint_row rows owners place (a.Node n) k h e =
    let r = row_is (thing_of (a.Node n)) (row_at rows k) e in
    absurd (true≢false (sym (h.holds.kinds k r.0) ∙ ap is_holder (sym (same_true (thing_of (a.Node n)) (thing_at rows k) r.1))))
hint_row rows owners place (a.Page n) k h e =
    let r = row_is (thing_of (a.Page n)) (row_at rows k) e in
    absurd (true≢false (sym (h.holds.kinds k r.0) ∙ ap is_holder (sym (same_true (thing_of (a.Page n)) (thing_at rows k) r.1))))

-- a thing without holdings stands under the row of the hint
pub hint_leaf : (rows : List Row) (owners : ℕ) (place : AThing → Option ℕ) (t : AThing) (k : ℕ) → Keeps rows owners place → has_leaf (thing_of t) (items_at rows k) ≡ true → hinted place t ≡ Some k
hint_leaf rows owners place (a.Owner n) k h e = absurd (true≢false (leaf_kind (the_owner n) (items_at rows k) (h.holds.leaves k) e))
hint_leaf rows owners place (a.Effect n) k h e = h.placed.leaves k (a.Effect n) e
hint_leaf rows owners place (a.Node n) k h e = h.placed.leaves k (a.Node n) e
hint_leaf rows owners place (a.Page n) k h e = h.placed.leaves k (a.Page n) e

module _ (rows : List Row) (owners : ℕ) (place : AThing → Option ℕ) (t : AThing) (h : Keeps rows owners place) where
  no_leaf : (k : ℕ) → (has_leaf (thing_of t) (items_at rows k) ≡ true → ⊥) → has_leaf (thing_of t) (items_at rows k) ≡ false
  no_leaf k f = elim (cases_Bool (has_leaf (thing_of t) (items_at rows k))) [ inl q ↦ absurd (f q) | inr q ↦ q ]

  no_row_of : (k : ℕ) → (is_row_of (thing_of t) (row_at rows k) ≡ true → ⊥) → is_row_of (thing_of t) (row_at rows k) ≡ false
  no_row_of k f = elim (cases_Bool (is_row_of (thing_of t) (row_at rows k))) [ inl q ↦ absurd (f q) | inr q ↦ q ]

  held_other : (k m : ℕ) → is_held m (items_at rows k) ≡ true → is_row_of (thing_of t) (row_at rows m) ≡ false → same_thing (thing_of t) (thing_at rows m) ≡ false
  held_other k m e f = sym (row_alive (thing_of t) (row_at rows m) (h.holds.table.lives k m e)) ∙ f

  -- a row from which nothing is taken
  row_same : (k : ℕ) → is_row_of (thing_of t) (row_at rows k) ≡ false → ((m : ℕ) → is_held m (items_at rows k) ≡ true → same_thing (thing_of t) (thing_at rows m) ≡ false) → has_leaf (thing_of t) (items_at rows k) ≡ false →
      row_at (dropped (thing_of t) rows) k ≡ row_at rows k
  row_same k f g e = in_kept rows owners owners (thing_of t) h.holds k f ∙ ap (λ is. record (row_at rows k) { items = is }) (without_same (thing_at rows) (thing_of t) (items_at rows k) g e)

  -- nothing is that thing
  pub none_dropped : ((k : ℕ) → is_row_of (thing_of t) (row_at rows k) ≡ false) → ((k : ℕ) → has_leaf (thing_of t) (items_at rows k) ≡ false) → rows ≡ dropped (thing_of t) rows
  none_dropped f g = rows_alike rows (dropped (thing_of t) rows) (sym (mapped_length (dropped_row (thing_at rows) (thing_of t)) rows))
      (λ k. sym (row_same k (f k) (λ m e. held_other k m e (f m)) (g k)))

  -- it stands under one row
  pub leaf_dropped : (id : ℕ) → id < length rows → ((k : ℕ) → is_row_of (thing_of t) (row_at rows k) ≡ false) → ((k : ℕ) → has_leaf (thing_of t) (items_at rows k) ≡ true → id ≡ k) →
      changed_at (sifted_row (is_leaf_of t)) id rows ≡ dropped (thing_of t) rows
  leaf_dropped id lt f g = rows_alike (changed_at (sifted_row (is_leaf_of t)) id rows) (dropped (thing_of t) rows)
      (changed_length (sifted_row (is_leaf_of t)) id rows ∙ sym (mapped_length (dropped_row (thing_at rows) (thing_of t)) rows))
      (λ k. elim (cases_eq id k) [
        | inl q ↦ subst (λ j. row_at (changed_at (sifted_row (is_leaf_of t)) id rows) j ≡ row_at (dropped (thing_of t) rows) j) q
            (changed_here (sifted_row (is_leaf_of t)) id rows lt
            ∙ (ap (λ is. record (row_at rows id) { items = is }) (sift_leaf (thing_at rows) t (items_at rows id) (λ m e. held_other id m e (f m)))
            ∙ sym (in_kept rows owners owners (thing_of t) h.holds id (f id))))
        | inr q ↦ changed_other (sifted_row (is_leaf_of t)) id k rows q ∙ sym (row_same k (f k) (λ m e. held_other k m e (f m)) (no_leaf k (λ e. q (g k e))))
      ])

  -- the row that is that thing, and no other
  only_row : (id m : ℕ) → is_row_of (thing_of t) (row_at rows id) ≡ true → live_at rows m ≡ true → same_thing (thing_of t) (thing_at rows m) ≡ true → id ≡ m
  only_row id m e l s =
      let r = row_is (thing_of t) (row_at rows id) e in
      let q : thing_at rows id ≡ thing_at rows m = sym (same_true (thing_of t) (thing_at rows id) r.1) ∙ same_true (thing_of t) (thing_at rows m) s in
      h.holds.names id m r.0 l (ap (λ u. same_thing u (thing_at rows m)) (sym (same_true (thing_of t) (thing_at rows id) r.1)) ∙ s)

  held_is : (id k m : ℕ) → is_row_of (thing_of t) (row_at rows id) ≡ true → is_held m (items_at rows k) ≡ true → same_thing (thing_of t) (thing_at rows m) ≡ (m == id)
  held_is id k m e q = elim (cases_eq m id) [
    | inl w ↦ (row_is (thing_of t) (row_at rows m) (ap (λ j. is_row_of (thing_of t) (row_at rows j)) w ∙ e)).1 ∙ sym (eq-eqb m id w)
    | inr w ↦ elim (cases_Bool (same_thing (thing_of t) (thing_at rows m))) [
      | inl s ↦ absurd (w (sym (only_row id m e (h.holds.table.lives k m q) s)))
      | inr s ↦ s ∙ sym (ne_eqb m id w)
    ]
  ]

  holder_leaf : (id k : ℕ) → is_row_of (thing_of t) (row_at rows id) ≡ true → has_leaf (thing_of t) (items_at rows k) ≡ true → ⊥
  holder_leaf id k e q =
      let r = row_is (thing_of t) (row_at rows id) e in
      true≢false (sym (h.holds.kinds id r.0) ∙ (ap is_holder (sym (same_true (thing_of t) (thing_at rows id) r.1)) ∙ leaf_kind (thing_of t) (items_at rows k) (h.holds.leaves k) q))

  -- a row of another, after the thing was taken out of the row in which it stands
  inside_row : (id k : ℕ) (inside : Option ℕ) → inside ≡ above_at rows id → is_row_of (thing_of t) (row_at rows id) ≡ true → (id ≡ k → ⊥) → row_at (sifted_inside inside (is_held_of id) rows) k ≡ row_at (dropped (thing_of t) rows) k
  inside_row id k inside a e ne = by inside a
    where
      out : is_row_of (thing_of t) (row_at rows k) ≡ false
      out = no_row_of k (λ q. let r = row_is (thing_of t) (row_at rows k) q in ne (only_row id k e r.0 r.1))

      elsewhere : (above_at rows id ≡ Some k → ⊥) → row_at rows k ≡ row_at (dropped (thing_of t) rows) k
      elsewhere f = sym (row_same k out (λ m q. held_is id k m e q ∙ ne_eqb m id (λ w. f (sym (ap (above_at rows) w) ∙ h.holds.above k m q))) (no_leaf k (λ q. holder_leaf id k e q)))

      there : (p : ℕ) → p ≡ k → row_at (changed_at (sifted_row (is_held_of id)) p rows) k ≡ row_at (dropped (thing_of t) rows) k
      there p q = elim (cases_lt k (length rows)) [
        | inl lt ↦ ap (λ j. row_at (changed_at (sifted_row (is_held_of id)) j rows) k) q
            ∙ (changed_here (sifted_row (is_held_of id)) k rows lt
            ∙ (ap (λ is. record (row_at rows k) { items = is }) (sift_held (thing_at rows) (thing_of t) id (items_at rows k) (λ m w. held_is id k m e w) (no_leaf k (λ w. holder_leaf id k e w)))
            ∙ sym (in_kept rows owners owners (thing_of t) h.holds k out)))
        | inr le ↦ row_past (changed_at (sifted_row (is_held_of id)) p rows) k (let l = changed_length (sifted_row (is_held_of id)) p rows in omega (arith, l, le))
            ∙ sym (row_past (dropped (thing_of t) rows) k (let l = mapped_length (dropped_row (thing_at rows) (thing_of t)) rows in omega (arith, l, le)))
      ]

      by : (o : Option ℕ) → o ≡ above_at rows id → row_at (sifted_inside o (is_held_of id) rows) k ≡ row_at (dropped (thing_of t) rows) k
      by None q = elsewhere (λ w. let z : None ≡ Some k = q ∙ w in cc)
      by (Some p) q = elim (cases_eq p k) [
        | inl w ↦ there p w
        | inr w ↦ changed_other (sifted_row (is_held_of id)) p k rows w ∙ elsewhere (λ z. w (let x : Some p ≡ Some k = q ∙ z in cc))
      ]

  ended_sifted : (inside : Option ℕ) (id k : ℕ) → ended_row (row_at (sifted_inside inside (is_held_of id) rows) k) ≡ ended_row (row_at rows k)
  ended_sifted None id k = refl
  ended_sifted (Some p) id k = changed_keeps (λ r. ended_row r) (sifted_row (is_held_of id)) (λ r. refl) p rows k

  -- it has a row of its own
  pub holder_dropped : (id : ℕ) → is_row_of (thing_of t) (row_at rows id) ≡ true → changed_at ended_row id (sifted_inside (above_at rows id) (is_held_of id) rows) ≡ dropped (thing_of t) rows
  holder_dropped id e = rows_alike (changed_at ended_row id (sifted_inside (above_at rows id) (is_held_of id) rows)) (dropped (thing_of t) rows)
      (changed_length ended_row id (sifted_inside (above_at rows id) (is_held_of id) rows) ∙ (sifted_length (above_at rows id) (is_held_of id) rows ∙ sym (mapped_length (dropped_row (thing_at rows) (thing_of t)) rows)))
      (λ k. elim (cases_eq id k) [
        | inl q ↦ subst (λ j. row_at (changed_at ended_row id (sifted_inside (above_at rows id) (is_held_of id) rows)) j ≡ row_at (dropped (thing_of t) rows) j) q
            (changed_here ended_row id (sifted_inside (above_at rows id) (is_held_of id) rows) (let l = live_there rows id (row_is (thing_of t) (row_at rows id) e).0 in let n = sifted_length (above_at rows id) (is_held_of id) rows in omega (arith, l, n))
            ∙ (ended_sifted (above_at rows id) id id ∙ sym (out_gone rows owners owners (thing_of t) h.holds id e)))
        | inr q ↦ changed_other ended_row id k (sifted_inside (above_at rows id) (is_held_of id) rows) q ∙ inside_row id k (above_at rows id) refl e q
      ])

  -- nothing is hinted
  pub at_nothing : hinted place t ≡ None → rows ≡ dropped (thing_of t) rows
  at_nothing e = none_dropped
      (λ k. no_row_of k (λ q. let z : None ≡ Some k = sym e ∙ hint_row rows owners place t k h q in cc))
      (λ k. no_leaf k (λ q. let z : None ≡ Some k = sym e ∙ hint_leaf rows owners place t k h q in cc))

  hint_one : (id k : ℕ) → hinted place t ≡ Some id → hinted place t ≡ Some k → id ≡ k
  hint_one id k e g = let z : Some id ≡ Some k = sym e ∙ g in cc

  not_there : (id : ℕ) → hinted place t ≡ Some id → is_row_of (thing_of t) (row_at rows id) ≡ false → (k : ℕ) → is_row_of (thing_of t) (row_at rows k) ≡ false
  not_there id e f k = no_row_of k (λ q. true≢false (sym (ap (λ j. is_row_of (thing_of t) (row_at rows j)) (hint_one id k e (hint_row rows owners place t k h q)) ∙ q) ∙ f))

  -- what is hinted is gone
  pub at_gone : (id : ℕ) → hinted place t ≡ Some id → is_row_of (thing_of t) (row_at rows id) ≡ false → live_at rows id ≡ false → rows ≡ dropped (thing_of t) rows
  at_gone id e f l = none_dropped (not_there id e f)
      (λ k. no_leaf k (λ q. true≢false (sym q ∙ (ap (λ j. has_leaf (thing_of t) (items_at rows j)) (sym (hint_one id k e (hint_leaf rows owners place t k h q))) ∙ ap (has_leaf (thing_of t)) (h.holds.empty id l)))))

  -- it is the row under which the thing may stand
  pub at_outer : (id : ℕ) → hinted place t ≡ Some id → is_row_of (thing_of t) (row_at rows id) ≡ false → live_at rows id ≡ true → changed_at (sifted_row (is_leaf_of t)) id rows ≡ dropped (thing_of t) rows
  at_outer id e f l = leaf_dropped id (live_there rows id l) (not_there id e f) (λ k q. hint_one id k e (hint_leaf rows owners place t k h q))
