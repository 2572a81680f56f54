-- How the rows look after each edit: how many there are, which live, and which thing each of these is.
use Rattle.std.proofs.Common.{◌≡◌, ℕ, ◌&&◌, Bool, true, false, List, length, Option, refl, sym, ap, ◌∙◌, inl, inr}
use Rattle.std.specs.Prelude.{not}
use Rattle.std.proofs.lemmas.Bool.{cases_Bool, true≢false}
use Rattle.signal_model.specs.Signals.{is_in}
use Rattle.effect_model.specs.Owners.{Thing, same_thing}
use Rattle.sig_owner.specs.Tables.{Item, held, Row, changed_at, dropped, emptied_row, is_row_of, live_at, row_at, thing_at, with_holder, with_item}
use Rattle.sig_owner.specs.Walks.{ended_under, with_taken_back}
use Rattle.sig_owner.proofs.Counts.{ended_length}
use Rattle.sig_owner.proofs.Removals.{dropped_at, row_in, row_is, row_out}
use Rattle.sig_owner.proofs.Ends.{ended_row_at, other_row_at}
use Rattle.sig_owner.proofs.Consistency.{holder_row, inside_keeps}
use Rattle.sig_owner.proofs.Rows.{changed_keeps, changed_length}

-- ---- one item more

pub item_thing : (i : Item) (n k : ℕ) (rows : List Row) → thing_at (changed_at (with_item i) n rows) k ≡ thing_at rows k
item_thing i n k rows = changed_keeps (λ r. r.holder) (with_item i) (λ r. refl) n rows k

pub item_lives : (i : Item) (n k : ℕ) (rows : List Row) → live_at (changed_at (with_item i) n rows) k ≡ live_at rows k
item_lives i n k rows = changed_keeps (λ r. r.live) (with_item i) (λ r. refl) n rows k

pub item_length : (i : Item) (n : ℕ) (rows : List Row) → length (changed_at (with_item i) n rows) ≡ length rows
item_length i n rows = changed_length (with_item i) n rows

-- ---- one holder more

pub other_thing : (rows : List Row) (inside : Option ℕ) (t : Thing) (k : ℕ) → (k ≡ length rows → ⊥) → thing_at (with_holder rows inside t) k ≡ thing_at rows k
other_thing rows inside t k ne = elim (holder_row rows inside t k) [
  | inl x ↦ ap (λ (r : Row). r.holder) x.1 ∙ inside_keeps (λ r. r.holder) inside (held (length rows)) (λ r. refl) rows k
  | inr x ↦ absurd (ne x.0)
]

pub other_lives : (rows : List Row) (inside : Option ℕ) (t : Thing) (k : ℕ) → (k ≡ length rows → ⊥) → live_at (with_holder rows inside t) k ≡ live_at rows k
other_lives rows inside t k ne = elim (holder_row rows inside t k) [
  | inl x ↦ ap (λ (r : Row). r.live) x.1 ∙ inside_keeps (λ r. r.live) inside (held (length rows)) (λ r. refl) rows k
  | inr x ↦ absurd (ne x.0)
]

pub new_thing : (rows : List Row) (inside : Option ℕ) (t : Thing) → thing_at (with_holder rows inside t) (length rows) ≡ t
new_thing rows inside t = elim (holder_row rows inside t (length rows)) [ inl x ↦ absurd (x.0 refl) | inr x ↦ ap (λ (r : Row). r.holder) x.1 ]

pub new_lives : (rows : List Row) (inside : Option ℕ) (t : Thing) → live_at (with_holder rows inside t) (length rows) ≡ true
new_lives rows inside t = elim (holder_row rows inside t (length rows)) [ inl x ↦ absurd (x.0 refl) | inr x ↦ ap (λ (r : Row). r.live) x.1 ]

-- ---- things taken back

pub taken_back_thing : (rows : List Row) (n k : ℕ) → live_at (with_taken_back rows n) k ≡ true → thing_at (with_taken_back rows n) k ≡ thing_at rows k
taken_back_thing rows n k e = elim (cases_Bool (is_in k (ended_under rows n))) [
  | inl x ↦ absurd (true≢false (sym e ∙ (changed_keeps (λ r. r.live) emptied_row (λ r. refl) n _ k ∙ ap (λ (r : Row). r.live) (ended_row_at (ended_under rows n) rows k x))))
  | inr x ↦ changed_keeps (λ r. r.holder) emptied_row (λ r. refl) n _ k ∙ ap (λ (r : Row). r.holder) (other_row_at (ended_under rows n) rows k x)
]

pub taken_back_length : (rows : List Row) (n : ℕ) → length (with_taken_back rows n) ≡ length rows
taken_back_length rows n = changed_length emptied_row n _ ∙ ended_length (ended_under rows n) rows

-- ---- one thing taken out

pub dropped_thing : (t : Thing) (rows : List Row) (k : ℕ) → live_at (dropped t rows) k ≡ true → thing_at (dropped t rows) k ≡ thing_at rows k
dropped_thing t rows k e = elim (cases_Bool (is_row_of t (row_at rows k))) [
  | inl q ↦ absurd (true≢false (sym e ∙ ap (λ (r : Row). r.live) (dropped_at t rows k ∙ row_out (thing_at rows) t (row_at rows k) q)))
  | inr q ↦ ap (λ (r : Row). r.holder) (dropped_at t rows k ∙ row_in (thing_at rows) t (row_at rows k) q)
]

pub dropped_lives : (t : Thing) (rows : List Row) (k : ℕ) → live_at (dropped t rows) k ≡ (live_at rows k && not (same_thing t (thing_at rows k)))
dropped_lives t rows k = ap (λ (r : Row). r.live) (dropped_at t rows k) ∙ elim (cases_Bool (is_row_of t (row_at rows k))) [
  | inl q ↦ (let r = row_is t (row_at rows k) q in ap (λ (x : Row). x.live) (row_out (thing_at rows) t (row_at rows k) q) ∙ sym (λ i. r.0 i && not (r.1 i)))
  | inr q ↦ ap (λ (x : Row). x.live) (row_in (thing_at rows) t (row_at rows k) q) ∙ by (live_at rows k) (same_thing t (thing_at rows k)) q
]
  where
    by : (a b : Bool) → (a && b) ≡ false → a ≡ (a && not b)
    by false b e = refl
    by true b e = sym (ap not e)
