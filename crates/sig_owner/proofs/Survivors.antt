-- Which holders live after things were taken back.
use Rattle.std.proofs.Common.{◌≡◌, ℕ, zero, suc, ◌==◌, ◌||◌, ◌&&◌, true, false, List, [], ◌∷◌, ◌++◌, length, eq-eqb, refl, sym, ap, ◌∙◌, inl, inr}
use Rattle.std.specs.Prelude.{not}
use Rattle.std.proofs.lemmas.Bool.{cases_Bool, or_left, or_right, true≢false}
use Rattle.effect_model.specs.Owners.{ends, cleans, same_thing, teardown_of, is_holder}
use Rattle.sig_owner.specs.declared.thing.Undoing.{Undoing as AnUndoing}
use Rattle.sig_owner.specs.Trees.{stands_under}
use Rattle.sig_owner.proofs.Teardowns.{teardown_steps}
use Rattle.signal_model.specs.Signals.{is_in}
use Rattle.sig_owner.specs.Tables.{Item, held, leaf, noted, Row, items_at, live_at, thing_at}
use Rattle.sig_owner.specs.Places.{AreLeaves, RowsAgree}
use Rattle.sig_owner.specs.Walks.{Step, does, leaves, is_ended, is_held, items_steps, left_in, steps_under, steps_undoings, steps_within, undoings_of, with_taken_back}
use Rattle.sig_owner.proofs.Ends.{ended_held, gone_there, live_there_still}
use Rattle.sig_owner.proofs.Forests.{same_is}
use Rattle.sig_owner.proofs.Consistency.{same_true}

-- each thing that ends by itself is no holder, and each holder that ends lived
AreSteps : List Row → List Step → Type 0
AreSteps rows [] = Unit {0}
AreSteps rows (does (cleans t c) ∷ ss) = AreSteps rows ss
AreSteps rows (does (ends t) ∷ ss) = (is_holder t ≡ false) × AreSteps rows ss
AreSteps rows (leaves m ∷ ss) = (live_at rows m ≡ true) × AreSteps rows ss

steps_join : (rows : List Row) (xs ys : List Step) → AreSteps rows xs → AreSteps rows ys → AreSteps rows (xs ++ ys)
unfolding AreSteps
steps_join rows [] ys p q = q
steps_join rows (does (cleans t c) ∷ xs) ys p q = steps_join rows xs ys p q
steps_join rows (does (ends t) ∷ xs) ys p q = (p.0, steps_join rows xs ys p.1 q)
steps_join rows (leaves m ∷ xs) ys p q = (p.0, steps_join rows xs ys p.1 q)

items_are : (rows : List Row) (f : ℕ → List Step) (n : ℕ) (is : List Item) → AreLeaves is → ((m : ℕ) → is_held m is ≡ true → (live_at rows m ≡ true) × AreSteps rows (f m)) → AreSteps rows (items_steps (thing_at rows) f n is)
unfolding AreSteps
items_are rows f n [] a h = tt
items_are rows f n (noted c ∷ is) a h = steps_join rows (items_steps (thing_at rows) f n is) (does (cleans (thing_at rows n) c) ∷ []) (items_are rows f n is a h) tt
items_are rows f n (leaf t ∷ is) a h = steps_join rows (items_steps (thing_at rows) f n is) (does (ends t) ∷ []) (items_are rows f n is a.1 h) (a.0, tt)
items_are rows f n (held k ∷ is) a h =
    let here = h k (or_left (k == k) (is_held k is) (eq-eqb k k refl)) in
    steps_join rows (items_steps (thing_at rows) f n is) (f k ++ leaves k ∷ []) (items_are rows f n is a (λ m q. h m (or_right (m == k) (is_held m is) q)))
    (steps_join rows (f k) (leaves k ∷ []) here.1 (here.0, tt))

levels_are : (rows : List Row) (owners : ℕ) → RowsAgree rows owners → (l n : ℕ) → AreSteps rows (steps_within l rows n)
unfolding AreSteps
levels_are rows owners h zero n = tt
levels_are rows owners h (suc l) n = items_are rows (steps_within l rows) n (items_at rows n) (h.leaves n) (λ m q. (h.table.lives n m q, levels_are rows owners h l m))

ended_is : (rows : List Row) (owners n : ℕ) → RowsAgree rows owners → live_at rows n ≡ true → (ss : List Step) → AreSteps rows ss → is_ended (thing_at rows n) (steps_undoings (thing_at rows) ss) ≡ is_in n (left_in ss)
unfolding AreSteps
ended_is rows owners n h l [] a = refl
ended_is rows owners n h l (does (cleans t c) ∷ ss) a = ended_is rows owners n h l ss a
ended_is rows owners n h l (does (ends t) ∷ ss) a = elim (cases_Bool (same_thing (thing_at rows n) t)) [
  | inl q ↦ absurd (true≢false (sym (h.kinds n l) ∙ (ap is_holder (same_true (thing_at rows n) t q) ∙ a.0)))
  | inr q ↦ rw q (ended_is rows owners n h l ss a.1)
]
ended_is rows owners n h l (leaves m ∷ ss) a = let ih = ended_is rows owners n h l ss a.1 in (λ i. same_is rows owners h n m l a.0 i || ih i)

-- what lives afterwards: what lived and didn't end
pub lasting : (rows : List Row) (owners o : ℕ) → RowsAgree rows owners → (n : ℕ) → live_at (with_taken_back rows o) n ≡ (live_at rows n && not (is_ended (thing_at rows n) (steps_undoings (thing_at rows) (steps_under rows o))))
unfolding steps_under
lasting rows owners o h n = elim (cases_Bool (live_at rows n)) [
  | inl l ↦ (let e = ended_is rows owners n h l (steps_within (length rows) rows o) (levels_are rows owners h (length rows) o) in
      elim (cases_Bool (is_in n (left_in (steps_within (length rows) rows o)))) [
        | inl q ↦ gone_there rows owners o owners h n q ∙ rw l (sym (ap not (e ∙ q)))
        | inr q ↦ live_there_still rows owners o owners h n q ∙ (l ∙ rw l (sym (ap not (e ∙ q))))
      ])
  | inr l ↦ elim (cases_Bool (is_in n (left_in (steps_within (length rows) rows o)))) [
    | inl q ↦ (let x = ended_held rows o n q in absurd (true≢false (sym (h.table.lives x.above n x.held) ∙ l)))
    | inr q ↦ live_there_still rows owners o owners h n q ∙ (l ∙ rw l refl)
  ]
]

-- the same as callers see it
pub lasting_seen : (rows rows' seen : List Row) (owners o : ℕ) (us : List AnUndoing) → RowsAgree rows owners → rows' ≡ with_taken_back rows o → undoings_of (thing_at rows) us ≡ teardown_of (thing_at rows o) (stands_under rows o) → rows ≡ seen →
    (n : ℕ) → live_at rows' n ≡ (live_at seen n && not (is_ended (thing_at seen n) (undoings_of (thing_at seen) us)))
lasting_seen rows rows' seen owners o us h e told v n =
    ap (λ rs. live_at rs n) e
    ∙ (lasting rows owners o h n
    ∙ (ap (λ xs. live_at rows n && not (is_ended (thing_at rows n) xs)) (teardown_steps rows o ∙ sym told)
    ∙ ap (λ rs. live_at rs n && not (is_ended (thing_at rs n) (undoings_of (thing_at rs) us))) v))
