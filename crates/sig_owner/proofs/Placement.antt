-- Each thing stays placed where it stands.
use Rattle.std.proofs.Common.{◌≡◌, ℕ, ◌+◌, ◌<◌, ◌||◌, true, false, List, [], ◌∷◌, ◌++◌, length, Option, Some, ◌⊎◌, inl, inr, eq-eqb, refl, sym, ap, subst, ◌∙◌, cond}
use Rattle.std.proofs.lemmas.Bool.{cases_Bool, cases_eq, or_left, or_right, true≢false}
use Rattle.effect_model.specs.Owners.{Thing, the_effect, same_thing, is_holder}
use Rattle.sig_owner.specs.declared.thing.Thing.{Thing as AThing}
use Rattle.sig_owner.specs.declared.thing.Thing.TheVariants as a
use Rattle.sig_owner.specs.Keys.{same_key, same_key-true}
use Rattle.sig_owner.specs.Tables.{Item, held, leaf, noted, Row, changed_at, is_open, is_owner, items_at, live_at, row_at, thing_at, thing_of, with_holder, with_item}
use Rattle.sig_owner.specs.Places.{AreLeaves, ArePlaced, RowsAgree, IsPlain, Keeps, has_leaf}
use Rattle.sig_owner.proofs.Counts.{live_there}
use Rattle.sig_owner.proofs.Consistency.{IsNew, holder_holds, holder_row, item_holds, inside_keeps, same_true}
use Rattle.sig_owner.specs.Trees.{has_thing, owned_of}
use Rattle.sig_owner.proofs.Membership.{leaf_stands}
use Rattle.sig_owner.proofs.Rows.{changed_here, changed_keeps, changed_other}

-- ---- another thing is placed

pub leaf_kind : (t : Thing) (is : List Item) → AreLeaves is → has_leaf t is ≡ true → is_holder t ≡ false
leaf_kind t [] h e = absurd (true≢false (sym e))
leaf_kind t (held k ∷ is) h e = leaf_kind t is h e
leaf_kind t (noted c ∷ is) h e = leaf_kind t is h e
leaf_kind t (leaf u ∷ is) h e = elim (cases_Bool (same_thing t u)) [
  | inl q ↦ ap is_holder (same_true t u q) ∙ h.0
  | inr q ↦ leaf_kind t is h.1 (let r : has_leaf t is ≡ true = rw q at e in r)
]

-- a thing that stands nowhere, and is no effect that lives
pub record IsLone (rows : List Row) (t : AThing) : Type 0 where
  pub leaf : (n : ℕ) → has_leaf (thing_of t) (items_at rows n) ≡ true → ⊥
  pub effect : (n e : ℕ) → live_at rows n ≡ true → thing_at rows n ≡ the_effect e → t ≡ a.Effect e → ⊥

pub lone_leaf : (rows : List Row) (owners : ℕ) (t : AThing) → is_holder (thing_of t) ≡ false → has_thing (thing_of t) (owned_of rows) ≡ false → RowsAgree rows owners → IsLone rows t
lone_leaf rows owners t k e h = record {
  leaf = λ n q. true≢false (sym (leaf_stands rows owners h (thing_of t) n q) ∙ e);
  effect = λ n m l q w. true≢false (sym (ap (λ s. is_holder (thing_of s)) w) ∙ k);
}

pub lone_effect : (rows : List Row) (owners e : ℕ) → IsNew rows (the_effect e) → RowsAgree rows owners → IsLone rows (a.Effect e)
lone_effect rows owners e new h = record {
  leaf = λ n q. true≢false (leaf_kind (the_effect e) (items_at rows n) (h.leaves n) q);
  effect = λ n m l q w. new.fresh n l (let x : the_effect m ≡ the_effect e = sym (ap thing_of w) in same_at n e (q ∙ x));
}
  where
    same_at : (n k : ℕ) → thing_at rows n ≡ the_effect k → same_thing (the_effect k) (thing_at rows n) ≡ true
    same_at n k q = rw q (eq-eqb k k refl)

pub one_placed : (rows : List Row) (place place' : AThing → Option ℕ) (t : AThing) (id : ℕ) → IsLone rows t → ((s : AThing) → place' s ≡ cond (same_key t s) (Some id) (place s)) → ArePlaced rows place → ArePlaced rows place'
one_placed rows place place' t id lone u p = record {
  leaves = λ n s e. u s ∙ elim (cases_Bool (same_key t s)) [
    | inl q ↦ absurd (lone.leaf n (ap (λ x. has_leaf (thing_of x) (items_at rows n)) (same_key-true t s q) ∙ e))
    | inr q ↦ rw q (p.leaves n s e)
  ];
  effects = λ n e l w. u (a.Effect e) ∙ elim (cases_Bool (same_key t (a.Effect e))) [
    | inl q ↦ absurd (lone.effect n e l w (same_key-true t (a.Effect e) q))
    | inr q ↦ rw q (p.effects n e l w)
  ];
}

-- ---- after edits

has_more : (t : Thing) (is : List Item) (i : Item) → has_leaf t (is ++ i ∷ []) ≡ true → (has_leaf t is ≡ true) ⊎ (has_leaf t (i ∷ []) ≡ true)
has_more t [] i e = inr e
has_more t (held k ∷ is) i e = has_more t is i e
has_more t (noted c ∷ is) i e = has_more t is i e
has_more t (leaf u ∷ is) i e = elim (cases_Bool (same_thing t u)) [
  | inl q ↦ inl (or_left (same_thing t u) (has_leaf t is) q)
  | inr q ↦ elim (has_more t is i (let r : has_leaf t (is ++ i ∷ []) ≡ true = rw q at e in r)) [
    | inl x ↦ inl (or_right (same_thing t u) (has_leaf t is) x)
    | inr x ↦ inr x
  ]
]

-- an item more under a row, placed there where it is a thing
pub item_placed : (rows : List Row) (place : AThing → Option ℕ) (n : ℕ) (i : Item) → n < length rows → ((t : AThing) → has_leaf (thing_of t) (i ∷ []) ≡ true → place t ≡ Some n) → ArePlaced rows place → ArePlaced (changed_at (with_item i) n rows) place
item_placed rows place n i lt one p = record {
  leaves = λ k t e. elim (cases_eq n k) [
    | inl q ↦ elim (has_more (thing_of t) (items_at rows n) i (sym (ap (λ (r : Row). has_leaf (thing_of t) r.items) (ap (row_at (changed_at (with_item i) n rows)) (sym q) ∙ changed_here (with_item i) n rows lt)) ∙ e)) [
      | inl x ↦ p.leaves n t x ∙ ap Some q
      | inr x ↦ one t x ∙ ap Some q
    ]
    | inr q ↦ p.leaves k t (sym (ap (λ (r : Row). has_leaf (thing_of t) r.items) (changed_other (with_item i) n k rows q)) ∙ e)
  ];
  effects = λ k e l w. p.effects k e (sym (changed_keeps (λ r. r.live) (with_item i) (λ r. refl) n rows k) ∙ l) (sym (changed_keeps (λ r. r.holder) (with_item i) (λ r. refl) n rows k) ∙ w);
}

has_held : (t : Thing) (is : List Item) (j : ℕ) → has_leaf t (is ++ held j ∷ []) ≡ has_leaf t is
has_held t [] j = refl
has_held t (held k ∷ is) j = has_held t is j
has_held t (noted c ∷ is) j = has_held t is j
has_held t (leaf u ∷ is) j = ap (λ b. same_thing t u || b) (has_held t is j)

-- a holder more, placed at its number where it is an effect
pub holder_placed : (rows : List Row) (place : AThing → Option ℕ) (inside : Option ℕ) (t : Thing) → ((e : ℕ) → t ≡ the_effect e → place (a.Effect e) ≡ Some (length rows)) → ArePlaced rows place → ArePlaced (with_holder rows inside t) place
holder_placed rows place inside t one p = record {
  leaves = λ n s e. elim (holder_row rows inside t n) [
    | inl x ↦ p.leaves n s (sym (inside_keeps (λ r. has_leaf (thing_of s) r.items) inside (held (length rows)) (λ r. has_held (thing_of s) r.items (length rows)) rows n) ∙ (sym (ap (λ (r : Row). has_leaf (thing_of s) r.items) x.1) ∙ e))
    | inr x ↦ absurd (true≢false (sym e ∙ ap (λ (r : Row). has_leaf (thing_of s) r.items) x.1))
  ];
  effects = λ n e l w. elim (holder_row rows inside t n) [
    | inl x ↦ p.effects n e (sym (inside_keeps (λ r. r.live) inside (held (length rows)) (λ r. refl) rows n) ∙ (sym (ap (λ (r : Row). r.live) x.1) ∙ l))
        (sym (inside_keeps (λ r. r.holder) inside (held (length rows)) (λ r. refl) rows n) ∙ (sym (ap (λ (r : Row). r.holder) x.1) ∙ w))
    | inr x ↦ one e (sym (ap (λ (r : Row). r.holder) x.1) ∙ w) ∙ ap Some (sym x.0)
  ];
}

key_same : (s t : AThing) → thing_of t ≡ thing_of s → same_key s t ≡ true
key_same (a.Node m) (a.Node n) e = let q : n ≡ m = cc in eq-eqb m n (sym q)
key_same (a.Effect m) (a.Effect n) e = let q : n ≡ m = cc in eq-eqb m n (sym q)
key_same (a.Page m) (a.Page n) e = let q : n ≡ m = cc in eq-eqb m n (sym q)
key_same (a.Owner m) (a.Owner n) e = let q : n ≡ m = cc in eq-eqb m n (sym q)
key_same _ _ e = absurd (cc)

-- ---- all fields

-- where nothing changed
pub same_kept : (rows rows' : List Row) (owners : ℕ) (place place' : AThing → Option ℕ) → rows' ≡ rows → ((t : AThing) → place' t ≡ place t) → Keeps rows owners place → Keeps rows' owners place'
same_kept rows rows' owners place place' e u k = record {
  holds = subst (λ rs. RowsAgree rs owners) (sym e) k.holds;
  placed = subst (λ rs. ArePlaced rs place') (sym e) (record { leaves = λ n t q. u t ∙ k.placed.leaves n t q; effects = λ n m l q. u (a.Effect m) ∙ k.placed.effects n m l q });
}

-- where a thing was placed that stands nowhere yet
pub one_kept : (rows rows' : List Row) (owners : ℕ) (place place' : AThing → Option ℕ) (t : AThing) (id : ℕ) → IsLone rows t → rows' ≡ rows → ((s : AThing) → place' s ≡ cond (same_key t s) (Some id) (place s)) → Keeps rows owners place → Keeps rows' owners place'
one_kept rows rows' owners place place' t id lone e u k = record {
  holds = subst (λ rs. RowsAgree rs owners) (sym e) k.holds;
  placed = subst (λ rs. ArePlaced rs place') (sym e) (one_placed rows place place' t id lone u k.placed);
}

-- where an item was put under a row
pub item_kept : (rows rows' : List Row) (owners n : ℕ) (place : AThing → Option ℕ) (i : Item) → IsPlain i → live_at rows n ≡ true → ((t : AThing) → has_leaf (thing_of t) (i ∷ []) ≡ true → place t ≡ Some n) →
    rows' ≡ changed_at (with_item i) n rows → RowsAgree rows owners → ArePlaced rows place → Keeps rows' owners place
item_kept rows rows' owners n place i p live one e h placed = record {
  holds = subst (λ rs. RowsAgree rs owners) (sym e) (item_holds rows owners n i p live h);
  placed = subst (λ rs. ArePlaced rs place) (sym e) (item_placed rows place n i (live_there rows n live) one placed);
}

-- where a holder was made
pub holder_kept : (rows rows' : List Row) (owners owners' : ℕ) (place : AThing → Option ℕ) (inside : Option ℕ) (t : Thing) → IsNew rows t → is_open rows inside ≡ true →
    ((e : ℕ) → t ≡ the_effect e → place (a.Effect e) ≡ Some (length rows)) → rows' ≡ with_holder rows inside t → owners' ≡ owners + cond (is_owner t) 1 0 → RowsAgree rows owners → ArePlaced rows place → Keeps rows' owners' place
holder_kept rows rows' owners owners' place inside t new may one e n h placed = record {
  holds = (let x = holder_holds rows owners inside t new may h in subst (λ rs. RowsAgree rs owners') (sym e) (subst (RowsAgree (with_holder rows inside t)) (sym n) x));
  placed = subst (λ rs. ArePlaced rs place) (sym e) (holder_placed rows place inside t one placed);
}

-- the place of the thing that was just noted
pub place_noted : (place place' : AThing → Option ℕ) (t : AThing) (id : ℕ) → ((s : AThing) → place' s ≡ cond (same_key t s) (Some id) (place s)) → (s : AThing) → has_leaf (thing_of s) (leaf (thing_of t) ∷ []) ≡ true → place' s ≡ Some id
place_noted place place' t id u s e = u s ∙ elim (cases_Bool (same_key t s)) [
  | inl q ↦ rw q refl
  | inr q ↦ absurd (true≢false (sym (only e) ∙ q))
]
  where
    only : has_leaf (thing_of s) (leaf (thing_of t) ∷ []) ≡ true → same_key t s ≡ true
    only h = key_same t s (elim (cases_Bool (same_thing (thing_of s) (thing_of t))) [
      | inl q ↦ same_true (thing_of s) (thing_of t) q
      | inr q ↦ absurd (true≢false (sym h ∙ rw q refl))
    ])

-- the place of the effect that was just noted
pub effect_noted : (place place' : AThing → Option ℕ) (e id n : ℕ) → id ≡ n → ((s : AThing) → place' s ≡ cond (same_key (a.Effect e) s) (Some id) (place s)) → (m : ℕ) → the_effect e ≡ the_effect m → place' (a.Effect m) ≡ Some n
effect_noted place place' e id n q u m w = let x : e ≡ m = cc in u (a.Effect m) ∙ (let y = eq-eqb e m x in rw y (ap Some q))
