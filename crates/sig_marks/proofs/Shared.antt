-- What crates above may cite of these proofs: tables after an edit. All else in this folder is this crate's own.
use Rattle.std.proofs.Common.{◌≡◌, ℕ, zero, suc, ◌<◌, ◌≤◌, ◌==◌, Bool, false, cond, if◌then◌else◌, List, [], ◌∷◌, ◌++◌, length, refl, sym, ap, ◌∙◌, arith}
use Rattle.std.specs.Prelude.{slice_set}
use Rattle.sig_marks.specs.Tables.{depends, marked_at}
use Rattle.sig_marks.proofs.LinkedSets.{suc_suc, suc_zero, zero_suc}
pub use Rattle.sig_marks.proofs.LinkedSets.{all_in}
pub use Rattle.sig_marks.proofs.PushedMarks.{mark_past, set_more}

-- one mark is set or taken
pub mark_set : (t : List Bool) (n m : ℕ) (b : Bool) → n < length t → marked_at (slice_set t n b) m ≡ (if n == m then b else marked_at t m)
mark_set [] n m b l = absurd (omega arith)
mark_set (x ∷ xs) zero zero b l = refl
mark_set (x ∷ xs) zero (suc m) b l = ap (λ q. cond q b (marked_at xs m)) (sym (zero_suc m))
mark_set (x ∷ xs) (suc n) zero b l = ap (λ q. cond q b x) (sym (suc_zero n))
mark_set (x ∷ xs) (suc n) (suc m) b l = let k : n < length xs = omega arith in mark_set xs n m b k ∙ ap (λ q. cond q b (marked_at xs m)) (sym (suc_suc n m))

pub mark_other : (t : List Bool) (n m : ℕ) (b : Bool) → (n == m) ≡ false → marked_at (slice_set t n b) m ≡ marked_at t m
mark_other [] n m b e = refl
mark_other (x ∷ xs) zero zero b e = cc
mark_other (x ∷ xs) zero (suc m) b e = refl
mark_other (x ∷ xs) (suc n) zero b e = refl
mark_other (x ∷ xs) (suc n) (suc m) b e = mark_other xs n m b (sym (suc_suc n m) ∙ e)

pub mark_set_len : (t : List Bool) (n : ℕ) (b : Bool) → length (slice_set t n b) ≡ length t
mark_set_len [] n b = refl
mark_set_len (x ∷ xs) zero b = refl
mark_set_len (x ∷ xs) (suc n) b = ap suc (mark_set_len xs n b)

-- a place more
pub mark_end : (t : List Bool) (b : Bool) (m : ℕ) → marked_at (t ++ b ∷ []) m ≡ (if length t == m then b else marked_at t m)
mark_end [] b zero = refl
mark_end [] b (suc m) = ap (λ q. cond q b false) (sym (zero_suc m))
mark_end (x ∷ xs) b zero = ap (λ q. cond q b x) (sym (suc_zero (length xs)))
mark_end (x ∷ xs) b (suc m) = mark_end xs b m ∙ ap (λ q. cond q b (marked_at xs m)) (sym (suc_suc (length xs) m))

pub depends_end : (dss : List (List ℕ)) (m d : ℕ) → depends (dss ++ [] ∷ []) m d ≡ depends dss m d
depends_end [] zero d = refl
depends_end [] (suc m) d = refl
depends_end (ds ∷ dss) zero d = refl
depends_end (ds ∷ dss) (suc m) d = depends_end dss m d

-- past the last place nothing depends on anything
pub depends_past : (dss : List (List ℕ)) (m d : ℕ) → length dss ≤ m → depends dss m d ≡ false
depends_past [] m d l = refl
depends_past (ds ∷ dss) zero d l = absurd (omega arith)
depends_past (ds ∷ dss) (suc m) d l = let k : length dss ≤ m = omega arith in depends_past dss m d k
