-- Rows that are there, and how many owners live.
use Rattle.std.proofs.Common.{◌≡◌, ℕ, zero, suc, ◌+◌, ◌<◌, ◌≤◌, Bool, true, false, List, [], ◌∷◌, ◌++◌, length, Option, Some, None, refl, ap, ◌∙◌, arith, cond}
use Rattle.sig_owner.specs.Removals.{sifted_inside, sifted_row}
use Rattle.sig_owner.specs.Tables.{Item, Row, all_ended, changed_at, ended_row, is_owner_row, live_at, owner_count, row_at}
use Rattle.sig_owner.proofs.Rows.{changed_length}

-- what lives has a row
pub live_there : (rows : List Row) (n : ℕ) → live_at rows n ≡ true → n < length rows
live_there [] n h = absurd (cc)
live_there (r ∷ rs) zero h = omega arith
live_there (r ∷ rs) (suc n) h = let l = live_there rs n h in omega (arith, l)

-- one holder that ends
pub count_ended : (rows : List Row) (n : ℕ) → owner_count (changed_at ended_row n rows) + cond (is_owner_row (row_at rows n)) 1 0 ≡ owner_count rows
count_ended [] n = refl
count_ended (r ∷ rs) zero = omega arith
count_ended (r ∷ rs) (suc n) = omega (arith, count_ended rs n)

-- no more owners live than there are rows
pub count_within : (rows : List Row) → owner_count rows ≤ length rows
count_within [] = omega arith
count_within (r ∷ rs) = by (is_owner_row r) (count_within rs)
  where
    by : (b : Bool) → owner_count rs ≤ length rs → cond b 1 0 + owner_count rs ≤ suc (length rs)
    by true h = omega arith
    by false h = omega arith

-- one more holder that ends
pub ended_more : (ns : List ℕ) (n : ℕ) (rows : List Row) → all_ended (ns ++ n ∷ []) rows ≡ changed_at ended_row n (all_ended ns rows)
ended_more [] n rows = refl
ended_more (m ∷ ns) n rows = ended_more ns n (changed_at ended_row m rows)

pub ended_length : (ns : List ℕ) (rows : List Row) → length (all_ended ns rows) ≡ length rows
ended_length [] rows = refl
ended_length (n ∷ ns) rows = ended_length ns (changed_at ended_row n rows) ∙ changed_length ended_row n rows

pub count_sifted_row : (is_out : Item → Bool) (n : ℕ) (rows : List Row) → owner_count (changed_at (sifted_row is_out) n rows) ≡ owner_count rows
count_sifted_row is_out n [] = refl
count_sifted_row is_out zero (r ∷ rs) = refl
count_sifted_row is_out (suc n) (r ∷ rs) = ap (λ (k : ℕ). cond (is_owner_row r) 1 0 + k) (count_sifted_row is_out n rs)

-- taking items out ends nobody
pub count_sifted : (inside : Option ℕ) (is_out : Item → Bool) (rows : List Row) → owner_count (sifted_inside inside is_out rows) ≡ owner_count rows
count_sifted None is_out rows = refl
count_sifted (Some n) is_out rows = count_sifted_row is_out n rows

pub sifted_length : (inside : Option ℕ) (is_out : Item → Bool) (rows : List Row) → length (sifted_inside inside is_out rows) ≡ length rows
sifted_length None is_out rows = refl
sifted_length (Some n) is_out rows = changed_length (sifted_row is_out) n rows
