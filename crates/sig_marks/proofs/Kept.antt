-- What holds of sets and marks after each edit.
use Rattle.std.proofs.Common.{◌≡◌, ℕ, ◌+◌, ◌<◌, ◌≤◌, Bool, true, false, List, [], ◌∷◌, ◌++◌, length, length-append, refl, sym, ap, ◌∙◌, arith, Option, Some, is_some, if◌then◌else◌}
use Rattle.std.specs.Prelude.{slice_set}
use Rattle.sig_marks.specs.declared.readers.Readers.{Readers}
use Rattle.sig_store.specs.Stored.{entry}
use Rattle.sig_marks.specs.Tables.{with_mark, without_mark}
use Rattle.sig_marks.specs.Sets.{IsMarkTable, keys_held, keys_of, marks_of, stands_of, standing_count, table_of}
use Rattle.sig_marks.proofs.LinkedSets.{count_end, more_depends, stands_end, stands_is}

-- a mark that is taken where its signal stands
pub taken_table : (ss : List (Option Readers)) (ms ms' : List (Option Bool)) (fs : List ℕ) (n : ℕ) → stands_of ms' ≡ stands_of ms →
    marks_of ms' ≡ (if is_some (entry ms n) then slice_set (marks_of ms) n false else marks_of ms) → table_of ss ms' fs ≡ without_mark (table_of ss ms fs) n
taken_table ss ms ms' fs n e f =
    (λ i. record { dependants = keys_of ss; marked = f i; stands = e i; fresh = fs })
    ∙ by (is_some (entry ms n))
    ∙ ap (λ b. if b then with_mark (table_of ss ms fs) n false else table_of ss ms fs) (sym (stands_is ms n))
  where
    by : (b : Bool) → record { dependants = keys_of ss; marked = if b then slice_set (marks_of ms) n false else marks_of ms; stands = stands_of ms; fresh = fs } ≡ (if b then with_mark (table_of ss ms fs) n false else table_of ss ms fs)
    by true = refl
    by false = refl

module _ (ss : List (Option Readers)) (ms : List (Option Bool)) (live cap : ℕ) where
  -- a signal more
  pub placed : (x : Readers) (b : Bool) (cap' : ℕ) → keys_held x ≡ [] → live + 1 ≤ cap' → IsMarkTable ss ms live cap →
      IsMarkTable (ss ++ Some x ∷ []) (ms ++ Some b ∷ []) (live + 1) cap'
  placed x b cap' e room h = record {
    alike = stands_end ss x ∙ ap (λ bs. bs ++ true ∷ []) h.alike ∙ sym (stands_end ms b);
    within = λ m d on.
        let l : d < length ms = h.within m d (sym (more_depends ss x e m d) ∙ on) in
        let k : length (ms ++ Some b ∷ []) ≡ length ms + 1 = length-append ms (Some b ∷ []) in
        omega (arith, l, k);
    count = ap standing_count (stands_end ms b) ∙ count_end (stands_of ms) ∙ ap (λ n. n + 1) h.count;
    room = room;
  }
