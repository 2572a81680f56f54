-- Each holder that lives, and all that stands under one, is somewhere in the tree.
use Rattle.std.proofs.Common.{◌≡◌, ℕ, zero, suc, ◌<◌, ◌||◌, Bool, true, false, List, [], ◌∷◌, Option, Some, None, inl, inr, refl, sym, ap, ◌∙◌, arith}
use Rattle.std.proofs.lemmas.Bool.{cases_Bool, cases_eq, ne_eqb, or_left, or_right, true≢false}
use Rattle.effect_model.specs.Owners.{Thing, the_effect, Owned, nothing, thing, cleanup, same_thing, under, is_holder}
use Rattle.sig_owner.specs.Tables.{IsBare, Item, held, leaf, noted, Row, above_at, items_at, live_at, row_at, thing_at}
use Rattle.sig_owner.specs.Trees.{has_thing, owned_of, piled, stands_under, top_items}
use Rattle.sig_owner.specs.Places.{RowsAgree, has_leaf}
use Rattle.sig_owner.specs.Walks.{is_held}
use Rattle.sig_owner.proofs.Forests.{is_top_row, outer_before, outer_lives, stands_here, top_count, under_is}
use Rattle.sig_owner.proofs.Consistency.{IsNew, held_counted, same_true}

-- what stands earlier stands there too
has_earlier : (names : ℕ → Thing) (f : ℕ → Owned) (t : Thing) (is : List Item) (e : Owned) → has_thing t e ≡ true → has_thing t (piled names f is e) ≡ true
has_earlier names f t [] e q = q
has_earlier names f t (held m ∷ is) e q = has_earlier names f t is (thing (names m) (f m) e) (or_right (same_thing t (names m)) (has_thing t (f m) || has_thing t e) (or_right (has_thing t (f m)) (has_thing t e) q))
has_earlier names f t (leaf u ∷ is) e q = has_earlier names f t is (thing u nothing e) (or_right (same_thing t u) (has_thing t e) q)
has_earlier names f t (noted c ∷ is) e q = has_earlier names f t is (cleanup c e) q

has_plain : (names : ℕ → Thing) (f : ℕ → Owned) (t : Thing) (is : List Item) (e : Owned) → has_leaf t is ≡ true → has_thing t (piled names f is e) ≡ true
has_plain names f t [] e q = absurd (true≢false (sym q))
has_plain names f t (held m ∷ is) e q = has_plain names f t is (thing (names m) (f m) e) q
has_plain names f t (noted c ∷ is) e q = has_plain names f t is (cleanup c e) q
has_plain names f t (leaf u ∷ is) e q = elim (cases_Bool (same_thing t u)) [
  | inl s ↦ has_earlier names f t is (thing u nothing e) (or_left (same_thing t u) (has_thing t e) s)
  | inr s ↦ has_plain names f t is (thing u nothing e) (let r : has_leaf t is ≡ true = rw s at q in r)
]

has_inner : (names : ℕ → Thing) (f : ℕ → Owned) (t : Thing) (is : List Item) (e : Owned) (m : ℕ) → is_held m is ≡ true → (same_thing t (names m) || has_thing t (f m)) ≡ true → has_thing t (piled names f is e) ≡ true
has_inner names f t [] e m q w = absurd (true≢false (sym q))
has_inner names f t (leaf u ∷ is) e m q w = has_inner names f t is (thing u nothing e) m q w
has_inner names f t (noted c ∷ is) e m q w = has_inner names f t is (cleanup c e) m q w
has_inner names f t (held k ∷ is) e m q w = elim (cases_eq m k) [
  | inl z ↦ has_earlier names f t is (thing (names k) (f k) e) (there (same_thing t (names k)) (has_thing t (f k)) (has_thing t e) (sym (ap (λ j. same_thing t (names j) || has_thing t (f j)) z) ∙ w))
  | inr z ↦ (let n = ne_eqb m k z in has_inner names f t is (thing (names k) (f k) e) m (let r : is_held m is ≡ true = rw n at q in r) w)
]
  where
    there : (a b c : Bool) → (a || b) ≡ true → (a || (b || c)) ≡ true
    there true b c x = refl
    there false b c x = or_left b c x

module _ (rows : List Row) (owners : ℕ) (h : RowsAgree rows owners) where
  stands_all : (t : Thing) (b o : ℕ) → o < b → live_at rows o ≡ true → (same_thing t (thing_at rows o) || has_thing t (stands_under rows o)) ≡ true →
      has_thing t (piled (thing_at rows) (stands_under rows) (top_items 0 rows) nothing) ≡ true
  stands_all t zero o lt l w = absurd (omega (arith, lt))
  stands_all t (suc b) o lt l w = by (above_at rows o) refl (λ p a. stands_all t b p (let x = outer_before rows owners h o p l a in omega (arith, x, lt)) (outer_lives rows owners h o p l a))
    where
      by : (a : Option ℕ) → above_at rows o ≡ a →
          ((p : ℕ) → above_at rows o ≡ Some p → (same_thing t (thing_at rows p) || has_thing t (stands_under rows p)) ≡ true → has_thing t (piled (thing_at rows) (stands_under rows) (top_items 0 rows) nothing) ≡ true) →
          has_thing t (piled (thing_at rows) (stands_under rows) (top_items 0 rows) nothing) ≡ true
      by None a ih = has_inner (thing_at rows) (stands_under rows) t (top_items 0 rows) nothing o (held_counted o (top_items 0 rows) (top_count 0 o o rows (omega arith) (is_top_row (row_at rows o) l a))) w
      by (Some p) a ih = ih p a (or_right (same_thing t (thing_at rows p)) (has_thing t (stands_under rows p))
          (ap (has_thing t) (stands_here rows h.table p) ∙ has_inner (thing_at rows) (stands_under rows) t (items_at rows p) nothing o (held_counted o (items_at rows p) (h.once p o l a)) w))

  holder_lives : (n : ℕ) (t : Thing) → has_leaf t (items_at rows n) ≡ true → live_at rows n ≡ true
  holder_lives n t q = elim (cases_Bool (live_at rows n)) [
    | inl x ↦ x
    | inr x ↦ absurd (true≢false (sym q ∙ ap (has_leaf t) (h.empty n x)))
  ]

  -- a thing among the items stands somewhere
  pub leaf_stands : (t : Thing) (n : ℕ) → has_leaf t (items_at rows n) ≡ true → has_thing t (owned_of rows) ≡ true
  unfolding owned_of
  leaf_stands t n q =
      stands_all t (suc n) n (omega arith) (holder_lives n t q)
      (or_right (same_thing t (thing_at rows n)) (has_thing t (stands_under rows n)) (ap (has_thing t) (stands_here rows h.table n) ∙ has_plain (thing_at rows) (stands_under rows) t (items_at rows n) nothing q))

  -- a holder that lives stands somewhere
  pub holder_stands : (t : Thing) (n : ℕ) → live_at rows n ≡ true → same_thing t (thing_at rows n) ≡ true → has_thing t (owned_of rows) ≡ true
  unfolding owned_of
  holder_stands t n l q = stands_all t (suc n) n (omega arith) l (or_left (same_thing t (thing_at rows n)) (has_thing t (stands_under rows n)) q)

  -- where nothing stands under a holder its row is empty
  pub bare_rows : (t : Thing) → (is_holder t ≡ true → under t (owned_of rows) ≡ nothing) → IsBare rows t
  bare_rows t none n l q =
      let e = same_true t (thing_at rows n) q in
      piled_nothing (thing_at rows) (stands_under rows) (items_at rows n) nothing
      (sym (stands_here rows h.table n) ∙ (sym (under_is rows owners h n l) ∙ (ap (λ u. under u (owned_of rows)) (sym e) ∙ none (ap is_holder e ∙ h.kinds n l))))
    where
      piled_empty : (names : ℕ → Thing) (f : ℕ → Owned) (is : List Item) (x : Owned) → piled names f is x ≡ nothing → (is ≡ []) × (x ≡ nothing)
      piled_empty names f [] x w = (refl, w)
      piled_empty names f (held m ∷ is) x w = absurd (let z = (piled_empty names f is (thing (names m) (f m) x) w).1 in cc)
      piled_empty names f (leaf u ∷ is) x w = absurd (let z = (piled_empty names f is (thing u nothing x) w).1 in cc)
      piled_empty names f (noted c ∷ is) x w = absurd (let z = (piled_empty names f is (cleanup c x) w).1 in cc)

      piled_nothing : (names : ℕ → Thing) (f : ℕ → Owned) (is : List Item) (x : Owned) → piled names f is x ≡ nothing → is ≡ []
      piled_nothing names f is x w = (piled_empty names f is x w).0

-- an effect that stands nowhere is new
pub new_effect : (rows : List Row) (owners e : ℕ) → has_thing (the_effect e) (owned_of rows) ≡ false → RowsAgree rows owners → IsNew rows (the_effect e)
new_effect rows owners e none h = record {
  kind = refl;
  number = λ k q. absurd (cc);
  fresh = λ m l s. true≢false (sym (holder_stands rows owners h (the_effect e) m l s) ∙ none);
}
