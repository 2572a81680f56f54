-- What holds of a store holds after things were taken back.
use Rattle.std.proofs.Common.{◌≡◌, ℕ, zero, suc, ◌+◌, ◌<◌, ◌==◌, true, false, List, [], ◌∷◌, ◌++◌, length, Some, ◌⊎◌, inl, inr, eq-eqb, refl, sym, ap, subst, ◌∙◌, arith, cond}
use Rattle.std.proofs.lemmas.Bool.{cases_Bool, cases_eq, ne_eqb, or_left, or_right, true≢false}
use Rattle.effect_model.specs.Owners.{Thing, same_thing, is_holder}
use Rattle.signal_model.specs.Signals.{is_in}
use Rattle.sig_owner.specs.Tables.{Item, held, leaf, noted, Row, all_ended, changed_at, emptied_row, ended_row, is_owner_row, items_at, live_at, owner_count, row_at, thing_at}
use Rattle.sig_owner.specs.Places.{AreLeaves, RowsAgree, has_leaf, held_count}
use Rattle.sig_owner.specs.Walks.{IsTable, Step, does, leaves, ended_under, is_held, item_steps, items_steps, left_in, steps_under, steps_within, with_taken_back}
use Rattle.sig_owner.proofs.Counts.{ended_length}
use Rattle.sig_owner.proofs.Consistency.{held_counted}
use Rattle.sig_owner.proofs.Rows.{changed_all, changed_keeps, changed_length, changed_other}
use Rattle.sig_owner.proofs.Walks.{levels_more}

-- ---- which holders end

in_left : (m : ℕ) (ns ks : List ℕ) → is_in m ns ≡ true → is_in m (ns ++ ks) ≡ true
in_left m [] ks e = absurd (true≢false (sym e))
in_left m (n ∷ ns) ks e = elim (cases_Bool (m == n)) [
  | inl q ↦ or_left (m == n) (is_in m (ns ++ ks)) q
  | inr q ↦ or_right (m == n) (is_in m (ns ++ ks)) (in_left m ns ks (let r : is_in m ns ≡ true = rw q at e in r))
]

in_right : (m : ℕ) (ns ks : List ℕ) → is_in m ks ≡ true → is_in m (ns ++ ks) ≡ true
in_right m [] ks e = e
in_right m (n ∷ ns) ks e = or_right (m == n) (is_in m (ns ++ ks)) (in_right m ns ks e)

in_either : (m : ℕ) (ns ks : List ℕ) → is_in m (ns ++ ks) ≡ true → (is_in m ns ≡ true) ⊎ (is_in m ks ≡ true)
in_either m [] ks e = inr e
in_either m (n ∷ ns) ks e = elim (cases_Bool (m == n)) [
  | inl q ↦ inl (or_left (m == n) (is_in m ns) q)
  | inr q ↦ elim (in_either m ns ks (let r : is_in m (ns ++ ks) ≡ true = rw q at e in r)) [ inl x ↦ inl (or_right (m == n) (is_in m ns) x) | inr x ↦ inr x ]
]

left_append : (xs ys : List Step) → left_in (xs ++ ys) ≡ left_in xs ++ left_in ys
left_append [] ys = refl
left_append (does u ∷ xs) ys = left_append xs ys
left_append (leaves m ∷ xs) ys = ap (λ (ns : List ℕ). m ∷ ns) (left_append xs ys)

-- a holder among the items ends, or one that ends under it
pub record EndsAt (f : ℕ → List Step) (is : List Item) (m : ℕ) : Type 0 where
  pub at : ℕ
  pub held : is_held at is ≡ true
  pub which : (m ≡ at) ⊎ (is_in m (left_in (f at)) ≡ true)

ends_later : (f : ℕ → List Step) (i : Item) (is : List Item) (m : ℕ) → EndsAt f is m → EndsAt f (i ∷ is) m
ends_later f (held k) is m e = record { at = e.at; held = or_right (e.at == k) (is_held e.at is) e.held; which = e.which }
ends_later f (leaf t) is m e = record { at = e.at; held = e.held; which = e.which }
ends_later f (noted c) is m e = record { at = e.at; held = e.held; which = e.which }

ends_outof : (names : ℕ → Thing) (f : ℕ → List Step) (n : ℕ) (is : List Item) (m : ℕ) → is_in m (left_in (items_steps names f n is)) ≡ true → EndsAt f is m
ends_outof names f n [] m e = absurd (true≢false (sym e))
ends_outof names f n (held k ∷ is) m e =
    elim (in_either m (left_in (items_steps names f n is)) (left_in (f k ++ leaves k ∷ [])) (sym (ap (is_in m) (left_append (items_steps names f n is) (f k ++ leaves k ∷ []))) ∙ e)) [
      | inl x ↦ ends_later f (held k) is m (ends_outof names f n is m x)
      | inr x ↦ record {
        at = k;
        held = or_left (k == k) (is_held k is) (eq-eqb k k refl);
        which = elim (in_either m (left_in (f k)) (k ∷ []) (sym (ap (is_in m) (left_append (f k) (leaves k ∷ []))) ∙ x)) [
          | inl y ↦ inr y
          | inr y ↦ inl (elim (cases_eq m k) [ inl z ↦ z | inr z ↦ absurd (true≢false (sym y ∙ (let w = ne_eqb m k z in rw w refl))) ])
        ];
      }
    ]
ends_outof names f n (leaf t ∷ is) m e =
    elim (in_either m (left_in (items_steps names f n is)) [] (sym (ap (is_in m) (left_append (items_steps names f n is) (item_steps names f n (leaf t)))) ∙ e)) [
      | inl x ↦ ends_later f (leaf t) is m (ends_outof names f n is m x)
      | inr x ↦ absurd (true≢false (sym x))
    ]
ends_outof names f n (noted c ∷ is) m e =
    elim (in_either m (left_in (items_steps names f n is)) [] (sym (ap (is_in m) (left_append (items_steps names f n is) (item_steps names f n (noted c)))) ∙ e)) [
      | inl x ↦ ends_later f (noted c) is m (ends_outof names f n is m x)
      | inr x ↦ absurd (true≢false (sym x))
    ]

pub ends_into : (names : ℕ → Thing) (f : ℕ → List Step) (n : ℕ) (is : List Item) (m : ℕ) → EndsAt f is m → is_in m (left_in (items_steps names f n is)) ≡ true
ends_into names f n [] m e = absurd (true≢false (sym e.held))
ends_into names f n (held k ∷ is) m e =
    ap (is_in m) (left_append (items_steps names f n is) (f k ++ leaves k ∷ []))
    ∙ elim (cases_eq e.at k) [
      | inl q ↦ in_right m (left_in (items_steps names f n is)) (left_in (f k ++ leaves k ∷ [])) (ap (is_in m) (left_append (f k) (leaves k ∷ [])) ∙ elim e.which [
        | inl x ↦ in_right m (left_in (f k)) (k ∷ []) (or_left (m == k) false (eq-eqb m k (x ∙ q)))
        | inr x ↦ in_left m (left_in (f k)) (k ∷ []) (sym (ap (λ j. is_in m (left_in (f j))) q) ∙ x)
      ])
      | inr q ↦ in_left m (left_in (items_steps names f n is)) (left_in (f k ++ leaves k ∷ [])) (ends_into names f n is m (record {
        at = e.at;
        held = let h = e.held in let w = ne_eqb e.at k q in (let r : is_held e.at is ≡ true = rw w at h in r);
        which = e.which;
      }))
    ]
ends_into names f n (leaf t ∷ is) m e = ap (is_in m) (left_append (items_steps names f n is) (item_steps names f n (leaf t))) ∙ in_left m (left_in (items_steps names f n is)) [] (ends_into names f n is m (record { at = e.at; held = e.held; which = e.which }))
ends_into names f n (noted c ∷ is) m e = ap (is_in m) (left_append (items_steps names f n is) (item_steps names f n (noted c))) ∙ in_left m (left_in (items_steps names f n is)) [] (ends_into names f n is m (record { at = e.at; held = e.held; which = e.which }))

-- with a holder end those that it holds
inner_ends : (rows : List Row) (l n m o : ℕ) → is_in n (left_in (steps_within l rows o)) ≡ true → is_held m (items_at rows n) ≡ true → is_in m (left_in (steps_within (suc l) rows o)) ≡ true
inner_ends rows zero n m o e h = absurd (true≢false (sym e))
inner_ends rows (suc l) n m o e h =
    let x = ends_outof (thing_at rows) (steps_within l rows) o (items_at rows o) n e in
    ends_into (thing_at rows) (steps_within (suc l) rows) o (items_at rows o) m (record {
      at = x.at;
      held = x.held;
      which = inr (elim x.which [
        | inl q ↦ ends_into (thing_at rows) (steps_within l rows) x.at (items_at rows x.at) m (record { at = m; held = sym (ap (λ k. is_held m (items_at rows k)) q) ∙ h; which = inl refl })
        | inr q ↦ inner_ends rows l n m x.at q h
      ]);
    })

-- what ends is held by the holder, or by another that ends
pub record EndsUnder (rows : List Row) (ended : List ℕ) (o m : ℕ) : Type 0 where
  pub above : ℕ
  pub held : is_held m (items_at rows above) ≡ true
  pub which : (above ≡ o) ⊎ (is_in above ended ≡ true)

outer_ends : (rows : List Row) (l m o : ℕ) → is_in m (left_in (steps_within l rows o)) ≡ true → EndsUnder rows (left_in (steps_within l rows o)) o m
outer_ends rows zero m o e = absurd (true≢false (sym e))
outer_ends rows (suc l) m o e =
    let x = ends_outof (thing_at rows) (steps_within l rows) o (items_at rows o) m e in
    elim x.which [
      | inl q ↦ record { above = o; held = ap (λ k. is_held k (items_at rows o)) q ∙ x.held; which = inl refl }
      | inr q ↦ (let y = outer_ends rows l m x.at q in record {
        above = y.above;
        held = y.held;
        which = inr (ends_into (thing_at rows) (steps_within l rows) o (items_at rows o) y.above (record { at = x.at; held = x.held; which = y.which }));
      })
    ]

-- the holders that end with a holder's things are closed under what is held
pub ended_closed : (rows : List Row) → IsTable rows → (o n m : ℕ) → is_held m (items_at rows n) ≡ true → (n ≡ o) ⊎ (is_in n (ended_under rows o) ≡ true) → is_in m (ended_under rows o) ≡ true
unfolding steps_under
ended_closed rows t o n m h w =
    sym (ap (λ ss. is_in m (left_in ss)) (levels_more rows t (length rows) o (omega arith)))
    ∙ elim w [
      | inl q ↦ ends_into (thing_at rows) (steps_within (length rows) rows) o (items_at rows o) m (record { at = m; held = sym (ap (λ k. is_held m (items_at rows k)) q) ∙ h; which = inl refl })
      | inr q ↦ inner_ends rows (length rows) n m o q h
    ]

pub ended_held : (rows : List Row) (o m : ℕ) → is_in m (ended_under rows o) ≡ true → EndsUnder rows (ended_under rows o) o m
unfolding steps_under
ended_held rows o m e = outer_ends rows (length rows) m o e

-- ---- the rows afterwards

ended_all : (P : Row → Type 0) → ((r : Row) → P r → P (ended_row r)) → (ns : List ℕ) (rows : List Row) → ((k : ℕ) → P (row_at rows k)) → (k : ℕ) → P (row_at (all_ended ns rows) k)
ended_all P h [] rows all = all
ended_all P h (n ∷ ns) rows all = ended_all P h ns (changed_at ended_row n rows) (changed_all P ended_row n rows (λ l. h (row_at rows n) (all n)) all)

-- a row that doesn't end
pub other_row_at : (ns : List ℕ) (rows : List Row) (k : ℕ) → is_in k ns ≡ false → row_at (all_ended ns rows) k ≡ row_at rows k
other_row_at [] rows k e = refl
other_row_at (n ∷ ns) rows k e = elim (cases_eq k n) [
  | inl q ↦ absurd (true≢false (sym (or_left (k == n) (is_in k ns) (eq-eqb k n q)) ∙ e))
  | inr q ↦ (let w = ne_eqb k n q in let r : is_in k ns ≡ false = rw w at e in other_row_at ns (changed_at ended_row n rows) k r ∙ changed_other ended_row n k rows (λ z. q (sym z)))
]

-- a row that ends
once_ended : (n : ℕ) (rows : List Row) → row_at (changed_at ended_row n rows) n ≡ ended_row (row_at rows n)
once_ended n [] = refl
once_ended zero (r ∷ rs) = refl
once_ended (suc n) (r ∷ rs) = once_ended n rs

pub ended_row_at : (ns : List ℕ) (rows : List Row) (k : ℕ) → is_in k ns ≡ true → row_at (all_ended ns rows) k ≡ ended_row (row_at rows k)
ended_row_at [] rows k e = absurd (true≢false (sym e))
ended_row_at (n ∷ ns) rows k e = elim (cases_Bool (is_in k ns)) [
  | inl x ↦ ended_row_at ns (changed_at ended_row n rows) k x ∙ changed_keeps (λ r. ended_row r) ended_row (λ r. refl) n rows k
  | inr x ↦ other_row_at ns (changed_at ended_row n rows) k x ∙ elim (cases_eq k n) [
    | inl q ↦ subst (λ j. row_at (changed_at ended_row n rows) j ≡ ended_row (row_at rows j)) (sym q) (once_ended n rows)
    | inr q ↦ absurd (true≢false (sym e ∙ (let w = ne_eqb k n q in rw w x)))
  ]
]

count_emptied : (n : ℕ) (rows : List Row) → owner_count (changed_at emptied_row n rows) ≡ owner_count rows
count_emptied n [] = refl
count_emptied zero (r ∷ rs) = refl
count_emptied (suc n) (r ∷ rs) = ap (λ (k : ℕ). cond (is_owner_row r) 1 0 + k) (count_emptied n rs)

emptied_here : (rs : List Row) (n : ℕ) → items_at (changed_at emptied_row n rs) n ≡ []
emptied_here [] n = refl
emptied_here (r ∷ rs) zero = refl
emptied_here (r ∷ rs) (suc n) = emptied_here rs n

module _ (rows : List Row) (owners o : ℕ) (left : ℕ) (h : RowsAgree rows owners) where
  -- a row that doesn't end keeps what emptying keeps
  pub keeps : {A : Type 0} (P : Row → A) → ((r : Row) → P (emptied_row r) ≡ P r) → (k : ℕ) → is_in k (ended_under rows o) ≡ false → P (row_at (with_taken_back rows o) k) ≡ P (row_at rows k)
  keeps P g k e = changed_keeps P emptied_row g o (all_ended (ended_under rows o) rows) k ∙ ap P (other_row_at (ended_under rows o) rows k e)

  all_keep : (P : Row → Type 0) → ((r : Row) → P r → P (ended_row r)) → ((r : Row) → P r → P (emptied_row r)) → ((k : ℕ) → P (row_at rows k)) → (k : ℕ) → P (row_at (with_taken_back rows o) k)
  all_keep P f g all =
      let x = ended_all P f (ended_under rows o) rows all in
      changed_all P emptied_row o (all_ended (ended_under rows o) rows) (λ l. g (row_at (all_ended (ended_under rows o) rows) o) (x o)) x

  -- a row outside
  pub outside : (k : ℕ) → (k ≡ o → ⊥) → is_in k (ended_under rows o) ≡ false → row_at (with_taken_back rows o) k ≡ row_at rows k
  outside k ne e = changed_other emptied_row o k (all_ended (ended_under rows o) rows) (λ q. ne (sym q)) ∙ other_row_at (ended_under rows o) rows k e

  pub none_here : (k : ℕ) → k ≡ o → items_at (with_taken_back rows o) k ≡ []
  none_here k e = subst (λ j. items_at (with_taken_back rows o) j ≡ []) (sym e) (emptied_here (all_ended (ended_under rows o) rows) o)

  pub none_ended : (k : ℕ) → is_in k (ended_under rows o) ≡ true → items_at (with_taken_back rows o) k ≡ []
  none_ended k e = elim (cases_eq k o) [
    | inl q ↦ none_here k q
    | inr q ↦ ap (λ (r : Row). r.items) (changed_other emptied_row o k (all_ended (ended_under rows o) rows) (λ z. q (sym z)) ∙ ended_row_at (ended_under rows o) rows k e)
  ]

  pub gone_there : (k : ℕ) → is_in k (ended_under rows o) ≡ true → live_at (with_taken_back rows o) k ≡ false
  gone_there k e = changed_keeps (λ r. r.live) emptied_row (λ r. refl) o (all_ended (ended_under rows o) rows) k ∙ ap (λ (r : Row). r.live) (ended_row_at (ended_under rows o) rows k e)

  pub live_there_still : (k : ℕ) → is_in k (ended_under rows o) ≡ false → live_at (with_taken_back rows o) k ≡ live_at rows k
  live_there_still k e = keeps (λ r. r.live) (λ r. refl) k e

  -- what is held afterwards was held, and its holder neither ended nor was emptied
  pub still_held : (n m : ℕ) → is_held m (items_at (with_taken_back rows o) n) ≡ true → ((n ≡ o → ⊥) × (is_in n (ended_under rows o) ≡ false)) × (is_held m (items_at rows n) ≡ true)
  still_held n m e = elim (cases_eq n o) [
    | inl q ↦ absurd (true≢false (sym e ∙ ap (is_held m) (none_here n q)))
    | inr q ↦ elim (cases_Bool (is_in n (ended_under rows o))) [
      | inl x ↦ absurd (true≢false (sym e ∙ ap (is_held m) (none_ended n x)))
      | inr x ↦ ((q, x), sym (ap (λ (r : Row). is_held m r.items) (outside n q x)) ∙ e)
    ]
  ]

  -- what stands there afterwards stood there
  pub still_there : (n : ℕ) (t : Thing) → has_leaf t (items_at (with_taken_back rows o) n) ≡ true → has_leaf t (items_at rows n) ≡ true
  still_there n t e = elim (cases_eq n o) [
    | inl q ↦ absurd (true≢false (sym e ∙ ap (has_leaf t) (none_here n q)))
    | inr q ↦ elim (cases_Bool (is_in n (ended_under rows o))) [
      | inl x ↦ absurd (true≢false (sym e ∙ ap (has_leaf t) (none_ended n x)))
      | inr x ↦ sym (ap (λ (r : Row). has_leaf t r.items) (outside n q x)) ∙ e
    ]
  ]

  -- what is still held didn't end
  pub held_lives : (n m : ℕ) → (n ≡ o → ⊥) → is_in n (ended_under rows o) ≡ false → is_held m (items_at rows n) ≡ true → is_in m (ended_under rows o) ≡ false
  held_lives n m q x e = elim (cases_Bool (is_in m (ended_under rows o))) [
    | inl y ↦ (let z = ended_held rows o m y in
        let same : Some z.above ≡ Some n = sym (h.above z.above m z.held) ∙ h.above n m e in
        let eq : z.above ≡ n = cc in
        elim z.which [ inl w ↦ absurd (q (sym eq ∙ w)) | inr w ↦ absurd (true≢false (sym w ∙ (ap (λ k. is_in k (ended_under rows o)) eq ∙ x))) ])
    | inr y ↦ y
  ]

  -- what lives afterwards lived and didn't end
  pub lives_still : (k : ℕ) → live_at (with_taken_back rows o) k ≡ true → (is_in k (ended_under rows o) ≡ false) × (live_at rows k ≡ true)
  lives_still k e = elim (cases_Bool (is_in k (ended_under rows o))) [
    | inl x ↦ absurd (true≢false (sym e ∙ gone_there k x))
    | inr x ↦ (x, sym (live_there_still k x) ∙ e)
  ]

  pub taken_length : length (with_taken_back rows o) ≡ length rows
  taken_length = changed_length emptied_row o (all_ended (ended_under rows o) rows) ∙ ended_length (ended_under rows o) rows

  pub taken_back_holds : left ≡ owner_count (all_ended (ended_under rows o) rows) → RowsAgree (with_taken_back rows o) left
  taken_back_holds counted =
      let above = keeps (λ r. r.above) (λ r. refl) in
      let name = keeps (λ r. r.holder) (λ r. refl) in
      record {
        table = record {
          later = λ n m e. h.table.later n m ((still_held n m e).1);
          lives = λ n m e. let s = still_held n m e in live_there_still m (held_lives n m s.0.0 s.0.1 s.1) ∙ h.table.lives n m s.1;
        };
        count = counted ∙ sym (count_emptied o (all_ended (ended_under rows o) rows));
        above = λ n m e. let s = still_held n m e in above m (held_lives n m s.0.0 s.0.1 s.1) ∙ h.above n m s.1;
        once = λ n m e a.
            let l = lives_still m e in
            let c = h.once n m l.1 (sym (above m l.0) ∙ a) in
            let was = held_counted m (items_at rows n) c in
            elim (cases_eq n o) [
              | inl q ↦ absurd (true≢false (sym (ended_closed rows h.table o n m was (inl q)) ∙ l.0))
              | inr q ↦ elim (cases_Bool (is_in n (ended_under rows o))) [
                | inl x ↦ absurd (true≢false (sym (ended_closed rows h.table o n m was (inr x)) ∙ l.0))
                | inr x ↦ ap (λ (r : Row). held_count m r.items) (outside n q x) ∙ c
              ]
            ];
        empty = λ n e. elim (cases_eq n o) [
          | inl q ↦ none_here n q
          | inr q ↦ elim (cases_Bool (is_in n (ended_under rows o))) [
            | inl x ↦ none_ended n x
            | inr x ↦ ap (λ (r : Row). r.items) (outside n q x) ∙ h.empty n (sym (live_there_still n x) ∙ e)
          ]
        ];
        leaves = all_keep (λ r. AreLeaves r.items) (λ r a. tt) (λ r a. tt) h.leaves;
        kinds = λ n e. let l = lives_still n e in ap is_holder (name n l.0) ∙ h.kinds n l.1;
        numbers = λ n k e g. let l = lives_still n e in h.numbers n k l.1 (sym (name n l.0) ∙ g);
        names = λ n m e g s. let l = lives_still n e in let x = lives_still m g in h.names n m l.1 x.1 (sym (λ j. same_thing (name n l.0 j) (name m x.0 j)) ∙ s);
      }
