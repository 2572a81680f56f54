-- The rows of holders are read and written as the holders are.
use Rattle.std.proofs.Common.{◌≡◌, ℕ, zero, suc, ◌<◌, ◌≤◌, Bool, cond, true, false, List, [], ◌∷◌, ◌++◌, length, Option, Some, None, IsSome, IfSome, IfNone, Bor, refl, sym, ap, ◌∙◌, arith}
use Rattle.std.specs.Prelude.{filter, not, slice_set}
use Rattle.std.specs.Option.{option_copied}
use Rattle.std.proofs.lemmas.Bool.{true≢false}
use Rattle.sig_store.specs.Stored.{entry}
use Rattle.sig_owner.specs.declared.holder.Holder.{Holder}
use Rattle.sig_owner.specs.declared.holder.Made.{Made}
use Rattle.sig_owner.specs.Tables.{Item, Row, changed_at, ended_row, entry_row, item_of, items_of, live_at, no_row, row_at, row_of, rows_of}

-- a row for each number
pub rows_length : (es : List (Option Holder)) → length (rows_of es) ≡ length es
rows_length [] = refl
rows_length (e ∷ es) = ap suc (rows_length es)

-- one more
pub rows_push : (es : List (Option Holder)) (h : Holder) → rows_of (es ++ Some h ∷ []) ≡ rows_of es ++ row_of h ∷ []
rows_push [] h = refl
rows_push (e ∷ es) h = ap (λ (rs : List Row). entry_row e ∷ rs) (rows_push es h)

row_entry : (es : List (Option Holder)) (n : ℕ) → row_at (rows_of es) n ≡ entry_row (entry es n)
row_entry [] n = refl
row_entry (e ∷ es) zero = refl
row_entry (e ∷ es) (suc n) = row_entry es n

row_found : (es : List (Option Holder)) (n i : ℕ) (o : Option (Bor Holder)) → i ≡ n → option_copied o ≡ entry es i → row_at (rows_of es) n ≡ entry_row (option_copied o)
row_found es n i o e is = ap (row_at (rows_of es)) (sym e) ∙ (row_entry es i ∙ ap entry_row (sym is))

-- a look at a number finds the holder whose row it is
pub found_holder : (es : List (Option Holder)) (n i : ℕ) (o : Option (Bor Holder)) → i ≡ n → option_copied o ≡ entry es i → IfSome o (λ h. row_at (rows_of es) n ≡ row_of h.now)
found_holder es n i None e is = tt
found_holder es n i (Some h) e is = row_found es n i (Some h) e is

-- where it finds none nothing is left
pub found_nobody : (es : List (Option Holder)) (n i : ℕ) (o : Option (Bor Holder)) → i ≡ n → option_copied o ≡ entry es i → IfNone o (row_at (rows_of es) n ≡ no_row)
found_nobody es n i None e is = row_found es n i None e is
found_nobody es n i (Some h) e is = tt

-- what lives stands there
pub live_stands : (es : List (Option Holder)) (n i : ℕ) → i ≡ n → live_at (rows_of es) n ≡ true → IsSome (entry es i)
live_stands es n i e l = go es i (ap (live_at (rows_of es)) e ∙ l)
  where
    go : (xs : List (Option Holder)) (k : ℕ) → live_at (rows_of xs) k ≡ true → IsSome (entry xs k)
    go [] k q = absurd (true≢false (sym q))
    go (None ∷ xs) zero q = absurd (true≢false (sym q))
    go (Some h ∷ xs) zero q = refl
    go (x ∷ xs) (suc k) q = go xs k q

-- past the last
pub row_past : (rows : List Row) (n : ℕ) → length rows ≤ n → row_at rows n ≡ no_row
row_past [] n h = refl
row_past (r ∷ rs) zero h = absurd (omega arith)
row_past (r ∷ rs) (suc n) h = row_past rs n (omega arith)

-- the rows after a holder was written
pub written : (es : List (Option Holder)) (n i : ℕ) (h y : Holder) (f : Row → Row) → i ≡ n → entry es i ≡ Some h → row_of y ≡ f (row_of h) → rows_of (slice_set es i (Some y)) ≡ changed_at f n (rows_of es)
written es n i h y f e is made = go es i is ∙ ap (λ k. changed_at f k (rows_of es)) e
  where
    go : (xs : List (Option Holder)) (k : ℕ) → entry xs k ≡ Some h → rows_of (slice_set xs k (Some y)) ≡ changed_at f k (rows_of xs)
    go [] k q = refl
    go (x ∷ xs) zero q = ap (λ (r : Row). r ∷ rows_of xs) (made ∙ ap (λ o. f (entry_row o)) (sym q))
    go (x ∷ xs) (suc k) q = ap (λ (rs : List Row). entry_row x ∷ rs) (go xs k q)

-- after one was taken out
pub removed : (es : List (Option Holder)) (n i : ℕ) → i ≡ n → rows_of (slice_set es i None) ≡ changed_at ended_row n (rows_of es)
removed es n i e = go es i ∙ ap (λ k. changed_at ended_row k (rows_of es)) e
  where
    go : (xs : List (Option Holder)) (k : ℕ) → rows_of (slice_set xs k None) ≡ changed_at ended_row k (rows_of xs)
    go [] k = refl
    go (x ∷ xs) zero = refl
    go (x ∷ xs) (suc k) = ap (λ (rs : List Row). entry_row x ∷ rs) (go xs k)

-- an edit that leaves alone what is gone does nothing where nothing lives
pub untouched : (f : Row → Row) → f no_row ≡ no_row → (es : List (Option Holder)) (n : ℕ) → live_at (rows_of es) n ≡ false → rows_of es ≡ changed_at f n (rows_of es)
untouched f z [] n e = refl
untouched f z (None ∷ es) zero e = ap (λ (r : Row). r ∷ rows_of es) (sym z)
untouched f z (Some h ∷ es) zero e = absurd (true≢false e)
untouched f z (x ∷ es) (suc n) e = ap (λ (rs : List Row). entry_row x ∷ rs) (untouched f z es n e)

-- ---- a row after an edit

pub changed_length : (f : Row → Row) (n : ℕ) (rows : List Row) → length (changed_at f n rows) ≡ length rows
changed_length f n [] = refl
changed_length f zero (r ∷ rs) = refl
changed_length f (suc n) (r ∷ rs) = ap suc (changed_length f n rs)

pub changed_here : (f : Row → Row) (n : ℕ) (rows : List Row) → n < length rows → row_at (changed_at f n rows) n ≡ f (row_at rows n)
changed_here f n [] h = absurd (omega arith)
changed_here f zero (r ∷ rs) h = refl
changed_here f (suc n) (r ∷ rs) h = changed_here f n rs (omega arith)

pub changed_other : (f : Row → Row) (n m : ℕ) (rows : List Row) → (n ≡ m → ⊥) → row_at (changed_at f n rows) m ≡ row_at rows m
changed_other f n m [] h = refl
changed_other f zero zero (r ∷ rs) h = absurd (h refl)
changed_other f zero (suc m) (r ∷ rs) h = refl
changed_other f (suc n) zero (r ∷ rs) h = refl
changed_other f (suc n) (suc m) (r ∷ rs) h = changed_other f n m rs (λ e. h (ap suc e))

changed_same : (n : ℕ) (rows : List Row) → changed_at (λ r. r) n rows ≡ rows
changed_same n [] = refl
changed_same zero (r ∷ rs) = refl
changed_same (suc n) (r ∷ rs) = ap (λ (xs : List Row). r ∷ xs) (changed_same n rs)

-- the rows after a holder was written as it was
pub unwritten : (es : List (Option Holder)) (n i : ℕ) (h y : Holder) → i ≡ n → entry es i ≡ Some h → row_of y ≡ row_of h → rows_of (slice_set es i (Some y)) ≡ rows_of es
unwritten es n i h y e is same = written es n i h y (λ r. r) e is same ∙ changed_same n (rows_of es)

-- what an edit of one row keeps of it is kept everywhere
pub changed_keeps : {A : Type 0} (P : Row → A) (f : Row → Row) → ((r : Row) → P (f r) ≡ P r) → (n : ℕ) (rows : List Row) (k : ℕ) → P (row_at (changed_at f n rows) k) ≡ P (row_at rows k)
changed_keeps P f h n [] k = refl
changed_keeps P f h zero (r ∷ rs) zero = h r
changed_keeps P f h zero (r ∷ rs) (suc k) = refl
changed_keeps P f h (suc n) (r ∷ rs) zero = refl
changed_keeps P f h (suc n) (r ∷ rs) (suc k) = changed_keeps P f h n rs k

-- what holds of each row and of the edited one holds of each row afterwards
pub changed_all : (P : Row → Type 0) (f : Row → Row) (n : ℕ) (rows : List Row) → (n < length rows → P (f (row_at rows n))) → ((k : ℕ) → P (row_at rows k)) → (k : ℕ) → P (row_at (changed_at f n rows) k)
changed_all P f n [] h all k = all k
changed_all P f zero (r ∷ rs) h all zero = h (omega arith)
changed_all P f zero (r ∷ rs) h all (suc k) = all (suc k)
changed_all P f (suc n) (r ∷ rs) h all zero = all zero
changed_all P f (suc n) (r ∷ rs) h all (suc k) = changed_all P f n rs (λ l. h (omega (arith, l))) (λ j. all (suc j)) k

-- ---- one row more

pub more_before : (rows : List Row) (r : Row) (k : ℕ) → k < length rows → row_at (rows ++ r ∷ []) k ≡ row_at rows k
more_before [] r k h = absurd (omega arith)
more_before (q ∷ rs) r zero h = refl
more_before (q ∷ rs) r (suc k) h = more_before rs r k (let l : k < length rs = omega arith in l)

pub more_last : (rows : List Row) (r : Row) (k : ℕ) → k ≡ length rows → row_at (rows ++ r ∷ []) k ≡ r
more_last [] r zero h = refl
more_last [] r (suc k) h = absurd (omega arith)
more_last (q ∷ rs) r zero h = absurd (omega arith)
more_last (q ∷ rs) r (suc k) h = more_last rs r k (let l : k ≡ length rs = omega arith in l)

-- what holds of each row and of the new one
pub more_all : (P : Row → Type 0) (rows : List Row) (r : Row) → P r → ((k : ℕ) → P (row_at rows k)) → (k : ℕ) → P (row_at (rows ++ r ∷ []) k)
more_all P [] r h all zero = h
more_all P [] r h all (suc k) = all k
more_all P (q ∷ rs) r h all zero = all zero
more_all P (q ∷ rs) r h all (suc k) = more_all P rs r h (λ j. all (suc j)) k

-- the items of what is kept
pub items_kept : (is_out : Item → Bool) (ms : List Made) → items_of (filter (λ m. not (is_out (item_of m))) ms) ≡ filter (λ i. not (is_out i)) (items_of ms)
items_kept is_out [] = refl
items_kept is_out (m ∷ ms) = by (not (is_out (item_of m))) (items_kept is_out ms)
  where
    by : (b : Bool) → items_of (filter (λ x. not (is_out (item_of x))) ms) ≡ filter (λ i. not (is_out i)) (items_of ms) →
        items_of (cond b (m ∷ filter (λ x. not (is_out (item_of x))) ms) (filter (λ x. not (is_out (item_of x))) ms)) ≡ cond b (item_of m ∷ filter (λ i. not (is_out i)) (items_of ms)) (filter (λ i. not (is_out i)) (items_of ms))
    by true e = ap (λ is. item_of m ∷ is) e
    by false e = e
