-- Each change of signals and memos keeps dependants and marks true.
use Rattle.std.specs.Prelude.{◌≡◌, ℕ, ◌||◌, Bool, true, false, List, map, Some}
use Rattle.sig_base.specs.declared.value.Value.{Value}
use Rattle.sig_base.specs.declared.value.Outcome.{Outcome}
use Rattle.signal_model.specs.Recipes.{Recipe}
use Rattle.signal_model.specs.Signals.{Signals, Cell, Computed, IsCell, IsComputed, is_computed, is_there, standing}
use Rattle.signal_model.specs.Memos.{Entry, Memos, entry_at, named_now}
use Rattle.signal_model.specs.Settling.{with_memo}
use Rattle.signal_model.specs.Marks.{Clean, IsBelow, is_due, due_below, mark_of}
use Rattle.signal_model.specs.Changes.{with_cell, with_computed, after_making, with_value, after_change, with_recipe, after_rewiring, without_signal, after_disposal}
use Rattle.mark_laws.specs.Marked.{IsUnmarked, AreMarked, IsExplored, IsUnused, IsSearched, without_marks, HasSpread, run_unmarks, stop_unmarks, ended, with_flag, relinked, unlinked, mark_by_marks}

-- a set or an edit of rows
abbrev pub SetMarksLaw : Type 0
SetMarksLaw = (w : Signals) (k : Memos) (dependants : ℕ → ℕ → Bool) (t u computing : ℕ → Bool) (n : ℕ) (c : Cell) (v : Value) →
    standing w n ≡ IsCell c →
    AreMarked w k dependants t computing → HasSpread w dependants t u n → AreMarked (with_value w n v) (after_change k n) dependants u computing

-- another recipe, which marks the computed itself too
abbrev pub RewireMarksLaw : Type 0
RewireMarksLaw = (w : Signals) (k : Memos) (dependants : ℕ → ℕ → Bool) (t u computing : ℕ → Bool) (n : ℕ) (c : Computed) (r : Recipe) →
    standing w n ≡ IsComputed c →
    AreMarked w k dependants t computing → HasSpread w dependants t u n → u n ≡ true →
    AreMarked (with_recipe w n r) (after_rewiring k n) dependants u computing

-- a disposal, which takes the disposed one out of all dependants
abbrev pub DisposeMarksLaw : Type 0
DisposeMarksLaw = (w : Signals) (k : Memos) (dependants : ℕ → ℕ → Bool) (t u computing : ℕ → Bool) (n : ℕ) → is_there (standing w n) ≡ true →
    AreMarked w k dependants t computing → HasSpread w dependants t u n →
    AreMarked (without_signal w n) (after_disposal k n) (unlinked dependants n) u (with_flag computing n false)

-- an evaluation begins: its computed is marked, and so are its dependants
abbrev pub BeginMarksLaw : Type 0
BeginMarksLaw = (w : Signals) (k : Memos) (dependants : ℕ → ℕ → Bool) (t u computing : ℕ → Bool) (n : ℕ) (c : Computed) →
    standing w n ≡ IsComputed c →
    AreMarked w k dependants t computing → HasSpread w dependants t u n → u n ≡ true → AreMarked w k dependants u (with_flag computing n true)

-- it ends with a run, whatever else is computing
abbrev pub RunMarksLaw : Type 0
RunMarksLaw = (w : Signals) (k : Memos) (dependants : ℕ → ℕ → Bool) (t computing : ℕ → Bool) (n : ℕ) (c : Computed) (o : Outcome)
    (reads : List ℕ) (e : Entry) → standing w n ≡ IsComputed c → computing n ≡ true → entry_at n k.entries ≡ Some e →
    AreMarked w k dependants t computing → AreMarked w (with_memo k n o (map (named_now k) reads)) (relinked dependants n reads)
    (ended t n (run_unmarks w t o reads)) (with_flag computing n false)

-- it ends without a run
abbrev pub StopMarksLaw : Type 0
StopMarksLaw = (w : Signals) (k : Memos) (dependants : ℕ → ℕ → Bool) (t computing : ℕ → Bool) (n : ℕ) (c : Computed) →
    standing w n ≡ IsComputed c → computing n ≡ true →
    AreMarked w k dependants t computing → AreMarked w k dependants (ended t n (stop_unmarks w k t n)) (with_flag computing n false)

-- a cell is made: its name is unused, and has no dependants
abbrev pub CellMarksLaw : Type 0
CellMarksLaw = (w : Signals) (k : Memos) (dependants : ℕ → ℕ → Bool) (t computing : ℕ → Bool) (c : Cell) → IsUnused k c.name →
    ((d : ℕ) → dependants c.name d ≡ false) →
    AreMarked w k dependants t computing → AreMarked (with_cell w c) (after_making k c.name) dependants t computing

-- a computed is made: so is its name, and it is marked
abbrev pub ComputedMarksLaw : Type 0
ComputedMarksLaw = (w : Signals) (k : Memos) (dependants : ℕ → ℕ → Bool) (t computing : ℕ → Bool) (c : Computed) → IsUnused k c.name →
    ((d : ℕ) → dependants c.name d ≡ false) → t c.name ≡ true →
    AreMarked w k dependants t computing → AreMarked (with_computed w c) (after_making k c.name) dependants t computing

-- a search for what must run passes over what is unmarked
abbrev pub PruneLaw : Type 0
PruneLaw = (w : Signals) (k : Memos) (dependants : ℕ → ℕ → Bool) (t computing : ℕ → Bool) (n far : ℕ) →
    AreMarked w k dependants t computing → is_computed (standing w n) ≡ true → t n ≡ false →
    (is_due w k n || due_below far w k n) ≡ false

-- what is unmarked is clean
abbrev pub UnmarkedLaw : Type 0
UnmarkedLaw = (w : Signals) (k : Memos) (dependants : ℕ → ℕ → Bool) (t computing : ℕ → Bool) (n : ℕ) →
    AreMarked w k dependants t computing → is_computed (standing w n) ≡ true → t n ≡ false → mark_of w k n ≡ Clean

-- Marks may go of what isn't computing, where each of these computeds is what an unmarked one is once all their marks are gone.
abbrev pub UnmarkLaw : Type 0
UnmarkLaw = (w : Signals) (k : Memos) (dependants : ℕ → ℕ → Bool) (t computing unmarked : ℕ → Bool) →
    ((n : ℕ) → unmarked n ≡ true → computing n ≡ false) →
    ((n : ℕ) → is_computed (standing w n) ≡ true → unmarked n ≡ true → IsUnmarked w k (without_marks t unmarked) n) →
    AreMarked w k dependants t computing → AreMarked w k dependants (without_marks t unmarked) computing

-- so they may of what a search went through that found nothing due
abbrev pub SearchedLaw : Type 0
SearchedLaw = (w : Signals) (k : Memos) (dependants : ℕ → ℕ → Bool) (t computing unmarked : ℕ → Bool) → IsSearched w k t computing unmarked →
    AreMarked w k dependants t computing → AreMarked w k dependants (without_marks t unmarked) computing

-- what marks tell of a computed is its state: clean, checked or dirty
abbrev pub LookLaw : Type 0
LookLaw = (w : Signals) (k : Memos) (dependants : ℕ → ℕ → Bool) (t computing : ℕ → Bool) (n : ℕ) → AreMarked w k dependants t computing →
    is_computed (standing w n) ≡ true →
    mark_by_marks w k t n ≡ mark_of w k n

-- where a search from n found nothing due among what is marked, nothing below n is due
abbrev pub ExploredLaw : Type 0
ExploredLaw = (w : Signals) (k : Memos) (dependants : ℕ → ℕ → Bool) (t computing seen : ℕ → Bool) (n : ℕ) →
    AreMarked w k dependants t computing → IsExplored w k t seen n →
    (m : ℕ) → IsBelow k n m → is_due w k m ≡ false
