-- An owner that is gone stands nowhere in the tree.
use Rattle.std.proofs.Common.{◌≡◌, ℕ, zero, suc, ◌+◌, ◌≤◌, ◌||◌, ◌==◌, true, false, List, [], ◌∷◌, length, eq-eqb, refl, sym, ap, ◌∙◌, inl, inr, arith}
use Rattle.std.proofs.lemmas.Bool.{cases_Bool, or_left, or_right, true≢false}
use Rattle.effect_model.specs.Owners.{Thing, the_owner, Owned, nothing, thing, cleanup, same_thing}
use Rattle.sig_owner.specs.Tables.{IsBare, Item, held, leaf, noted, Row, all_ended, dropped, items_at, live_at, owner_count, thing_at}
use Rattle.sig_owner.specs.Trees.{has_thing, owned_of, piled, stands_under, top_items}
use Rattle.sig_owner.specs.Places.{RowsAgree, has_leaf}
use Rattle.sig_owner.specs.Walks.{ended_under, is_held, with_taken_back}
use Rattle.sig_owner.proofs.Removals.{dropped_holds}
use Rattle.sig_owner.proofs.Ends.{taken_back_holds}
use Rattle.sig_owner.proofs.Forests.{stands_here, stands_past, top_lives}
use Rattle.sig_owner.proofs.Trees.{tops_leaf}
use Rattle.sig_owner.proofs.Consistency.{same_true}
use Rattle.sig_owner.proofs.Placement.{leaf_kind}

absent_piled : (names : ℕ → Thing) (f : ℕ → Owned) (t : Thing) (is : List Item) (e : Owned) → ((m : ℕ) → is_held m is ≡ true → (same_thing t (names m) ≡ false) × (has_thing t (f m) ≡ false)) → has_leaf t is ≡ false → has_thing t e ≡ false → has_thing t (piled names f is e) ≡ false
absent_piled names f t [] e h l q = q
absent_piled names f t (held k ∷ is) e h l q =
    let here = h k (or_left (k == k) (is_held k is) (eq-eqb k k refl)) in
    absent_piled names f t is (thing (names k) (f k) e) (λ m w. h m (or_right (m == k) (is_held m is) w)) l (λ i. here.0 i || (here.1 i || q i))
absent_piled names f t (noted c ∷ is) e h l q = absent_piled names f t is (cleanup c e) h l q
absent_piled names f t (leaf u ∷ is) e h l q = elim (cases_Bool (same_thing t u)) [
  | inl s ↦ absurd (true≢false (sym (or_left (same_thing t u) (has_leaf t is) s) ∙ l))
  | inr s ↦ absent_piled names f t is (thing u nothing e) h (let r : has_leaf t is ≡ false = rw s at l in r) (λ i. s i || q i)
]

module _ (rows : List Row) (owners : ℕ) (h : RowsAgree rows owners) where
  not_it : (n m : ℕ) → live_at rows n ≡ false → live_at rows m ≡ true → same_thing (the_owner n) (thing_at rows m) ≡ false
  not_it n m off on = elim (cases_Bool (same_thing (the_owner n) (thing_at rows m))) [
    | inl s ↦ (let q = h.numbers m n on (sym (same_true (the_owner n) (thing_at rows m) s)) in absurd (true≢false (sym on ∙ (ap (live_at rows) (sym q) ∙ off))))
    | inr s ↦ s
  ]

  no_leaf : (n k : ℕ) → has_leaf (the_owner n) (items_at rows k) ≡ false
  no_leaf n k = elim (cases_Bool (has_leaf (the_owner n) (items_at rows k))) [
    | inl q ↦ absurd (true≢false (leaf_kind (the_owner n) (items_at rows k) (h.leaves k) q))
    | inr q ↦ q
  ]

  absent_under : (b n k : ℕ) → live_at rows n ≡ false → length rows ≤ b + k → has_thing (the_owner n) (stands_under rows k) ≡ false
  absent_under zero n k off s = ap (has_thing (the_owner n)) (stands_past rows h.table k (omega (arith, s)))
  absent_under (suc b) n k off s =
      ap (has_thing (the_owner n)) (stands_here rows h.table k)
      ∙ absent_piled (thing_at rows) (stands_under rows) (the_owner n) (items_at rows k) nothing
      (λ m e. let x = h.table.later k m e in (not_it n m off (h.table.lives k m e), absent_under b n m off (omega (arith, x, s)))) (no_leaf n k) refl

  pub gone_nowhere : (n : ℕ) → live_at rows n ≡ false → has_thing (the_owner n) (owned_of rows) ≡ false
  unfolding owned_of
  gone_nowhere n off =
      absent_piled (thing_at rows) (stands_under rows) (the_owner n) (top_items 0 rows) nothing
      (λ m e. (not_it n m off (top_lives rows owners h m e).0, absent_under (length rows) n m off (omega arith))) (tops_leaf (the_owner n) 0 rows) refl

-- after things were taken back
pub taken_back_absent : (rows rows' : List Row) (owners o : ℕ) → RowsAgree rows owners → rows' ≡ with_taken_back rows o → (n : ℕ) → live_at rows' n ≡ false → has_thing (the_owner n) (owned_of rows') ≡ false
taken_back_absent rows rows' owners o h e n off =
    let left = owner_count (all_ended (ended_under rows o) rows) in
    ap (λ rs. has_thing (the_owner n) (owned_of rs)) e ∙ gone_nowhere (with_taken_back rows o) left (taken_back_holds rows owners o left h refl) n (sym (ap (λ rs. live_at rs n) e) ∙ off)

-- after a thing was taken out
pub dropped_absent : (rows rows' : List Row) (owners : ℕ) (t : Thing) → IsBare rows t → RowsAgree rows owners → rows' ≡ dropped t rows → (n : ℕ) → live_at rows' n ≡ false → has_thing (the_owner n) (owned_of rows') ≡ false
dropped_absent rows rows' owners t bare h e n off =
    let left = owner_count (dropped t rows) in
    ap (λ rs. has_thing (the_owner n) (owned_of rs)) e ∙ gone_nowhere (dropped t rows) left (dropped_holds rows owners left t h bare refl) n (sym (ap (λ rs. live_at rs n) e) ∙ off)
