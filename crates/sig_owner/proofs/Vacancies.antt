-- What is gone needs no place any more.
use Rattle.std.proofs.Common.{◌≡◌, ℕ, zero, suc, ◌==◌, ◌||◌, ◌&&◌, Bool, true, false, cond, List, [], ◌∷◌, ◌++◌, length, Option, Some, None, ◌⊎◌, inl, inr, eq-eqb, refl, sym, ap, subst, ◌∙◌}
use Rattle.std.specs.Prelude.{not}
use Rattle.std.proofs.lemmas.Bool.{cases_Bool, or_left, or_right, true≢false}
use Rattle.effect_model.specs.Owners.{Thing, the_effect, ends, cleans, same_thing, is_holder}
use Rattle.signal_model.specs.Signals.{is_in}
use Rattle.sig_owner.specs.declared.thing.Thing.{Thing as AThing}
use Rattle.sig_owner.specs.declared.thing.Thing.TheVariants as a
use Rattle.sig_owner.specs.declared.thing.Undoing.{Undoing as AnUndoing}
use Rattle.sig_owner.specs.declared.thing.Undoing.TheVariants as undoing
use Rattle.sig_owner.specs.Keys.{are_gone_in, is_gone_in, same_key}
use Rattle.sig_owner.specs.Tables.{Item, held, leaf, noted, Row, all_ended, items_at, live_at, owner_count, thing_at, thing_of}
use Rattle.sig_owner.specs.Places.{ArePlaced, RowsAgree, Keeps, has_leaf}
use Rattle.sig_owner.specs.Walks.{Step, does, leaves, ended_under, is_ended, is_held, items_steps, left_in, steps_under, steps_undoings, steps_within, undoings_of, with_taken_back}
use Rattle.sig_owner.proofs.Ends.{ends_into, keeps, lives_still, none_ended, none_here, still_there, taken_back_holds}
use Rattle.sig_owner.proofs.Consistency.{same_sym, same_true}
use Rattle.sig_owner.proofs.Survivors.{lasting}
use Rattle.sig_owner.proofs.Placement.{leaf_kind}

pub gone_more : (us : List AnUndoing) (u : AnUndoing) (t : AThing) → are_gone_in (us ++ u ∷ []) t ≡ (are_gone_in us t || is_gone_in u t)
gone_more [] u t = off (is_gone_in u t)
  where
    off : (b : Bool) → (b || false) ≡ b
    off true = refl
    off false = refl
gone_more (v ∷ us) u t = ap (λ b. is_gone_in v t || b) (gone_more us u t) ∙ join (is_gone_in v t) (are_gone_in us t) (is_gone_in u t)
  where
    join : (a b c : Bool) → (a || (b || c)) ≡ ((a || b) || c)
    join true b c = refl
    join false b c = refl

pub forgotten : (b c : Bool) (o : Option ℕ) → cond c None (cond b None o) ≡ cond (b || c) None o
forgotten true true o = refl
forgotten true false o = refl
forgotten false true o = refl
forgotten false false o = refl

key_is : (s t : AThing) → same_key s t ≡ same_thing (thing_of t) (thing_of s)
key_is (a.Node m) (a.Node n) = same_sym (thing_of (a.Node m)) (thing_of (a.Node n))
key_is (a.Effect m) (a.Effect n) = same_sym (thing_of (a.Effect m)) (thing_of (a.Effect n))
key_is (a.Page m) (a.Page n) = same_sym (thing_of (a.Page m)) (thing_of (a.Page n))
key_is (a.Owner m) (a.Owner n) = same_sym (thing_of (a.Owner m)) (thing_of (a.Owner n))
key_is _ _ = refl

gone_is : (names : ℕ → Thing) (us : List AnUndoing) (t : AThing) → are_gone_in us t ≡ is_ended (thing_of t) (undoings_of names us)
gone_is names [] t = refl
gone_is names (undoing.Cleanup o c ∷ us) t = gone_is names us t
gone_is names (undoing.Gone s ∷ us) t = (λ i. key_is s t i || gone_is names us t i)

-- ---- a thing without holdings that ends

ended_either : (t : Thing) (names : ℕ → Thing) (xs ys : List Step) → is_ended t (steps_undoings names (xs ++ ys)) ≡ true → (is_ended t (steps_undoings names xs) ≡ true) ⊎ (is_ended t (steps_undoings names ys) ≡ true)
ended_either t names [] ys e = inr e
ended_either t names (does (cleans u c) ∷ xs) ys e = ended_either t names xs ys e
ended_either t names (does (ends u) ∷ xs) ys e = elim (cases_Bool (same_thing t u)) [
  | inl q ↦ inl (or_left (same_thing t u) (is_ended t (steps_undoings names xs)) q)
  | inr q ↦ elim (ended_either t names xs ys (let r : is_ended t (steps_undoings names (xs ++ ys)) ≡ true = rw q at e in r)) [
    | inl x ↦ inl (or_right (same_thing t u) (is_ended t (steps_undoings names xs)) x)
    | inr x ↦ inr x
  ]
]
ended_either t names (leaves m ∷ xs) ys e = elim (cases_Bool (same_thing t (names m))) [
  | inl q ↦ inl (or_left (same_thing t (names m)) (is_ended t (steps_undoings names xs)) q)
  | inr q ↦ elim (ended_either t names xs ys (let r : is_ended t (steps_undoings names (xs ++ ys)) ≡ true = rw q at e in r)) [
    | inl x ↦ inl (or_right (same_thing t (names m)) (is_ended t (steps_undoings names xs)) x)
    | inr x ↦ inr x
  ]
]

-- it stands among the items, or something that is held there leads to it
ended_item : (t : Thing) (names : ℕ → Thing) (f : ℕ → List Step) (n : ℕ) (is : List Item) → ((m : ℕ) → is_held m is ≡ true → same_thing t (names m) ≡ false) → is_ended t (steps_undoings names (items_steps names f n is)) ≡ true →
    (has_leaf t is ≡ true) ⊎ ((m : ℕ) × ((is_held m is ≡ true) × (is_ended t (steps_undoings names (f m)) ≡ true)))
ended_item t names f n [] h e = absurd (true≢false (sym e))
ended_item t names f n (noted c ∷ is) h e = elim (ended_either t names (items_steps names f n is) (does (cleans (names n) c) ∷ []) e) [
  | inl x ↦ ended_item t names f n is h x
  | inr x ↦ absurd (true≢false (sym x))
]
ended_item t names f n (leaf u ∷ is) h e = elim (ended_either t names (items_steps names f n is) (does (ends u) ∷ []) e) [
  | inl x ↦ elim (ended_item t names f n is h x) [
    | inl y ↦ inl (or_right (same_thing t u) (has_leaf t is) y)
    | inr y ↦ inr y
  ]
  | inr x ↦ elim (cases_Bool (same_thing t u)) [
    | inl q ↦ inl (or_left (same_thing t u) (has_leaf t is) q)
    | inr q ↦ absurd (true≢false (sym x ∙ rw q refl))
  ]
]
ended_item t names f n (held k ∷ is) h e =
    let here = or_left (k == k) (is_held k is) (eq-eqb k k refl) in
    elim (ended_either t names (items_steps names f n is) (f k ++ leaves k ∷ []) e) [
      | inl x ↦ elim (ended_item t names f n is (λ m q. h m (or_right (m == k) (is_held m is) q)) x) [
        | inl y ↦ inl y
        | inr y ↦ inr (y.0, (or_right (y.0 == k) (is_held y.0 is) y.1.0, y.1.1))
      ]
      | inr x ↦ elim (ended_either t names (f k) (leaves k ∷ []) x) [
        | inl y ↦ inr (k, (here, y))
        | inr y ↦ absurd (true≢false (sym y ∙ (let q = h k here in rw q refl)))
      ]
    ]

-- the row under which it stood
pub record LeafOf (rows : List Row) (ended : List ℕ) (o : ℕ) (t : Thing) : Type 0 where
  pub row : ℕ
  pub stood : has_leaf t (items_at rows row) ≡ true
  pub which : (row ≡ o) ⊎ (is_in row ended ≡ true)

leaf_from : (rows : List Row) (owners : ℕ) (t : Thing) → RowsAgree rows owners → is_holder t ≡ false → (l o : ℕ) → is_ended t (steps_undoings (thing_at rows) (steps_within l rows o)) ≡ true → LeafOf rows (left_in (steps_within l rows o)) o t
leaf_from rows owners t h k zero o e = absurd (true≢false (sym e))
leaf_from rows owners t h k (suc l) o e =
    elim (ended_item t (thing_at rows) (steps_within l rows) o (items_at rows o) (λ m q. no_holder m (h.table.lives o m q)) e) [
      | inl x ↦ record { row = o; stood = x; which = inl refl }
      | inr x ↦ (let y = leaf_from rows owners t h k l x.0 x.1.1 in record {
        row = y.row;
        stood = y.stood;
        which = inr (ends_into (thing_at rows) (steps_within l rows) o (items_at rows o) y.row (record { at = x.0; held = x.1.0; which = y.which }));
      })
    ]
  where
    no_holder : (m : ℕ) → live_at rows m ≡ true → same_thing t (thing_at rows m) ≡ false
    no_holder m q = elim (cases_Bool (same_thing t (thing_at rows m))) [
      | inl s ↦ absurd (true≢false (sym (h.kinds m q) ∙ (ap is_holder (sym (same_true t (thing_at rows m) s)) ∙ k)))
      | inr s ↦ s
    ]

leaf_under : (rows : List Row) (owners o : ℕ) (t : Thing) → RowsAgree rows owners → is_holder t ≡ false → is_ended t (steps_undoings (thing_at rows) (steps_under rows o)) ≡ true → LeafOf rows (ended_under rows o) o t
unfolding steps_under
leaf_under rows owners o t h k e = leaf_from rows owners t h k (length rows) o e

-- ---- all fields, after things were taken back

module _ (rows : List Row) (owners o left : ℕ) (place place' : AThing → Option ℕ) (us : List AnUndoing) (told : undoings_of (thing_at rows) us ≡ steps_undoings (thing_at rows) (steps_under rows o))
    (forgot : (t : AThing) → place' t ≡ cond (are_gone_in us t) None (place t)) (k : Keeps rows owners place) where
  gone_here : (t : AThing) → are_gone_in us t ≡ is_ended (thing_of t) (steps_undoings (thing_at rows) (steps_under rows o))
  gone_here t = gone_is (thing_at rows) us t ∙ ap (is_ended (thing_of t)) told

  leaf_place : (n : ℕ) (t : AThing) → has_leaf (thing_of t) (items_at (with_taken_back rows o) n) ≡ true → place' t ≡ Some n
  leaf_place n t e =
      let was = still_there rows owners o left k.holds n (thing_of t) e in
      let at = k.placed.leaves n t was in
      forgot t ∙ elim (cases_Bool (are_gone_in us t)) [
        | inl q ↦ (let x = leaf_under rows owners o (thing_of t) k.holds (leaf_kind (thing_of t) (items_at rows n) (k.holds.leaves n) was) (sym (gone_here t) ∙ q) in
            let same : Some x.row ≡ Some n = sym (k.placed.leaves x.row t x.stood) ∙ at in
            let r : x.row ≡ n = cc in
            elim x.which [
              | inl w ↦ absurd (true≢false (sym e ∙ ap (has_leaf (thing_of t)) (none_here rows owners o left k.holds n (sym r ∙ w))))
              | inr w ↦ absurd (true≢false (sym e ∙ ap (has_leaf (thing_of t)) (none_ended rows owners o left k.holds n (sym (ap (λ j. is_in j (ended_under rows o)) r) ∙ w))))
            ])
        | inr q ↦ rw q at
      ]

  effect_place : (n e : ℕ) → live_at (with_taken_back rows o) n ≡ true → thing_at rows n ≡ the_effect e → place' (a.Effect e) ≡ Some n
  effect_place n e l q =
      let lived = (lives_still rows owners o left k.holds n l).1 in
      let stays = second (live_at rows n) (is_ended (thing_at rows n) (steps_undoings (thing_at rows) (steps_under rows o))) (sym (lasting rows owners o k.holds n) ∙ l) in
      forgot (a.Effect e)
      ∙ (ap (λ b. cond b None (place (a.Effect e))) (gone_here (a.Effect e) ∙ (ap (λ t. is_ended t (steps_undoings (thing_at rows) (steps_under rows o))) (sym q) ∙ stays))
      ∙ k.placed.effects n e lived q)
    where
      second : (b c : Bool) → (b && not c) ≡ true → c ≡ false
      second true true e = absurd (true≢false (sym e))
      second true false e = refl
      second false c e = absurd (true≢false (sym e))

  pub forgotten_kept : (rows' : List Row) → rows' ≡ with_taken_back rows o → left ≡ owner_count (all_ended (ended_under rows o) rows) → Keeps rows' left place'
  forgotten_kept rows' e n = record {
    holds = subst (λ rs. RowsAgree rs left) (sym e) (taken_back_holds rows owners o left k.holds n);
    placed = subst (λ rs. ArePlaced rs place') (sym e) (record {
      leaves = leaf_place;
      effects = λ m c l q. effect_place m c l (sym (keeps rows owners o left k.holds (λ r. r.holder) (λ r. refl) m (lives_still rows owners o left k.holds m l).0) ∙ q);
    });
  }
