-- Dependants and marks beside a state, and that each change of it keeps them true.
use Rattle.std.specs.Prelude.{◌≡◌, ℕ, Bool, true, false, List, [], Option, Some, None}
use Rattle.sig_base.specs.declared.value.Value.{Value}
use Rattle.sig_base.specs.declared.value.Outcome.{Outcome}
use Rattle.sig_base.specs.declared.value.Known.{Known}
use Rattle.signal_model.specs.Recipes.{Recipe}
use Rattle.signal_model.specs.Signals.{Cell, Computed, IsCell, IsComputed, is_computed, is_there, standing}
use Rattle.signal_model.specs.Memos.{Entry, entry_at}
use Rattle.signal_model.specs.Marks.{mark_of}
use Rattle.sig_graph.specs.States.{State, is_computing, with_new_cell, with_new_computed, with_set, with_rewiring, with_disposal, with_progress, with_kept_run, with_look}
use Rattle.mark_laws.specs.Marked.{AreMarked, HasSpread, IsSearched, IsUnused, ended, run_unmarks, stop_unmarks, mark_by_marks, relinked, unlinked, without_marks}

-- Dependants and marks are true of a state.
abbrev pub AreStateMarks : State → (ℕ → ℕ → Bool) → (ℕ → Bool) → Type 0
AreStateMarks s dependants marked = AreMarked s.signals s.memos dependants marked (is_computing s)

-- a cell is made: its name is unused, and has no dependants
abbrev pub NewCellLaw : Type 0
NewCellLaw = (s : State) (dependants : ℕ → ℕ → Bool) (t : ℕ → Bool) (c : Cell) → IsUnused s.memos c.name → ((d : ℕ) → dependants c.name d ≡ false) →
    AreStateMarks s dependants t → AreStateMarks (with_new_cell s c) dependants t

-- a computed is made: so is its name, and it is marked
abbrev pub NewComputedLaw : Type 0
NewComputedLaw = (s : State) (dependants : ℕ → ℕ → Bool) (t : ℕ → Bool) (c : Computed) → IsUnused s.memos c.name →
    ((d : ℕ) → dependants c.name d ≡ false) → t c.name ≡ true →
    AreStateMarks s dependants t → AreStateMarks (with_new_computed s c) dependants t

-- a cell has another value: its dependants are marked, and theirs
abbrev pub SetLaw : Type 0
SetLaw = (s : State) (dependants : ℕ → ℕ → Bool) (t u : ℕ → Bool) (n : ℕ) (c : Cell) (v : Value) → standing s.signals n ≡ IsCell c →
    HasSpread s.signals dependants t u n → AreStateMarks s dependants t → AreStateMarks (with_set s n v) dependants u

-- a computed has another recipe: it is marked too
abbrev pub RewireLaw : Type 0
RewireLaw = (s : State) (dependants : ℕ → ℕ → Bool) (t u : ℕ → Bool) (n : ℕ) (c : Computed) (r : Recipe) → standing s.signals n ≡ IsComputed c →
    HasSpread s.signals dependants t u n → u n ≡ true → AreStateMarks s dependants t → AreStateMarks (with_rewiring s n r) dependants u

-- a signal is gone: it is nobody's dependant any more
abbrev pub DisposeLaw : Type 0
DisposeLaw = (s : State) (dependants : ℕ → ℕ → Bool) (t u : ℕ → Bool) (n : ℕ) → is_there (standing s.signals n) ≡ true →
    HasSpread s.signals dependants t u n → AreStateMarks s dependants t → AreStateMarks (with_disposal s n) (unlinked dependants n) u

-- an evaluation begins: the computed is marked, and its dependants
abbrev pub BeginLaw : Type 0
BeginLaw = (s : State) (dependants : ℕ → ℕ → Bool) (t u : ℕ → Bool) (n : ℕ) (c : Computed) → standing s.signals n ≡ IsComputed c →
    HasSpread s.signals dependants t u n → u n ≡ true → AreStateMarks s dependants t → AreStateMarks (with_progress s n (Some [])) dependants u

-- it goes on, or is given up
abbrev pub OnwardLaw : Type 0
OnwardLaw = (s : State) (dependants : ℕ → ℕ → Bool) (t : ℕ → Bool) (n : ℕ) (known : Option (List Known)) → is_computing s n ≡ true →
    AreStateMarks s dependants t → AreStateMarks (with_progress s n known) dependants t

-- it ends with a run: its sources are those that it read, and its mark goes unless it came to `cycle` or read a marked computed
abbrev pub KeepLaw : Type 0
KeepLaw = (s : State) (dependants : ℕ → ℕ → Bool) (t : ℕ → Bool) (n : ℕ) (c : Computed) (o : Outcome) (reads : List ℕ) (e : Entry) →
    standing s.signals n ≡ IsComputed c →
    entry_at n s.memos.entries ≡ Some e → is_computing s n ≡ true → AreStateMarks s dependants t →
    AreStateMarks (with_kept_run s n o reads) (relinked dependants n reads) (ended t n (run_unmarks s.signals t o reads))

-- it ends without one: its mark goes unless it must run, holds `cycle` or keeps a marked computed
abbrev pub StopLaw : Type 0
StopLaw = (s : State) (dependants : ℕ → ℕ → Bool) (t : ℕ → Bool) (n : ℕ) (c : Computed) → standing s.signals n ≡ IsComputed c →
    is_computing s n ≡ true → AreStateMarks s dependants t →
    AreStateMarks (with_progress s n None) dependants (ended t n (stop_unmarks s.signals s.memos t n))

-- a look that found nothing due takes the marks of what it went through, if it may
abbrev pub UnmarkLaw : Type 0
UnmarkLaw = (s : State) (dependants : ℕ → ℕ → Bool) (t unmarked : ℕ → Bool) → IsSearched s.signals s.memos t (is_computing s) unmarked →
    AreStateMarks s dependants t →
    AreStateMarks (with_look s) dependants (without_marks t unmarked)

-- and what marks tell of a computed is its state
abbrev pub LookLaw : Type 0
LookLaw = (s : State) (dependants : ℕ → ℕ → Bool) (t : ℕ → Bool) (n : ℕ) → is_computed (standing s.signals n) ≡ true → AreStateMarks s dependants t →
    mark_by_marks s.signals s.memos t n ≡ mark_of s.signals s.memos n
