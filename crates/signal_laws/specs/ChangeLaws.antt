-- What changes of the signals keep.
use Rattle.std.specs.Prelude.{◌≡◌, ℕ, ◌+◌, Bool, true, false, List, nat_lt, None}
use Rattle.sig_base.specs.declared.value.Value.{Value}
use Rattle.signal_model.specs.Recipes.{Hosts, Recipe}
use Rattle.signal_model.specs.Signals.{Signals, Cell, Computed, IsCell, IsComputed, is_in, is_there, standing}
use Rattle.signal_model.specs.Memos.{Memos, memo_of}
use Rattle.signal_model.specs.Settling.{settled}
use Rattle.signal_model.specs.Sound.{IsSound}
use Rattle.signal_model.specs.Changes.{no_signals, no_memos, with_cell, with_computed, after_making, with_value}
use Rattle.signal_model.specs.Changes.{after_change, with_recipe, after_rewiring, without_signal, after_disposal}
use Rattle.signal_model.specs.Kept.{AreKept, AreGiven, StayGiven}

-- where nothing has a memo, what is kept is sound, whatever stands
abbrev pub NoMemosLaw : Type 0
NoMemosLaw = (hosts : Hosts) (w : Signals) (k : Memos) → ((n : ℕ) → memo_of k n ≡ None) → IsSound hosts w k

-- where nothing stands, nothing is kept
abbrev pub EmptyLaw : Type 0
EmptyLaw = (hosts : Hosts) → AreKept hosts no_signals no_memos

-- a cell is made under a name that wasn't given
abbrev pub CellLaw : Type 0
CellLaw = (hosts : Hosts) (given : ℕ → Bool) (w : Signals) (k : Memos) (c : Cell) → AreGiven given w k → given c.name ≡ false → AreKept hosts w k →
    AreKept hosts (with_cell w c) (after_making k c.name)

-- a computed is made under a name that wasn't given
abbrev pub ComputedLaw : Type 0
ComputedLaw = (hosts : Hosts) (given : ℕ → Bool) (w : Signals) (k : Memos) (c : Computed) → AreGiven given w k → given c.name ≡ false →
    AreKept hosts w k → AreKept hosts (with_computed w c) (after_making k c.name)

-- a cell is set, or its rows are edited
abbrev pub SetLaw : Type 0
SetLaw = (hosts : Hosts) (w : Signals) (k : Memos) (n : ℕ) (c : Cell) (v : Value) → standing w n ≡ IsCell c → AreKept hosts w k →
    AreKept hosts (with_value w n v) (after_change k n)

-- a computed has another recipe
abbrev pub RewireLaw : Type 0
RewireLaw = (hosts : Hosts) (w : Signals) (k : Memos) (n : ℕ) (c : Computed) (r : Recipe) → standing w n ≡ IsComputed c → AreKept hosts w k →
    AreKept hosts (with_recipe w n r) (after_rewiring k n)

-- a signal is disposed
abbrev pub DisposeLaw : Type 0
DisposeLaw = (hosts : Hosts) (w : Signals) (k : Memos) (n : ℕ) → is_there (standing w n) ≡ true → AreKept hosts w k →
    AreKept hosts (without_signal w n) (after_disposal k n)

-- ---- the names that were given

-- these were all given
abbrev pub AllGiven : (ℕ → Bool) → List ℕ → Type 0
AllGiven given ns = (n : ℕ) → is_in n ns ≡ true → given n ≡ true

-- names that are given in order: those below a count
abbrev pub given_below : ℕ → ℕ → Bool
given_below count n = nat_lt n count

-- the next one wasn't given and is given then, and the others stay given
pub record IsNext (count : ℕ) : Type 0 where
  pub new : given_below count count ≡ false
  pub given : given_below (count + 1) count ≡ true
  pub stay : StayGiven (given_below count) (given_below (count + 1))

-- so whoever gives names in order may make one signal after another
abbrev pub GivenNextLaw : Type 0
GivenNextLaw = (count : ℕ) → IsNext count

-- where nothing stands, no name is in use
abbrev pub GivenEmptyLaw : Type 0
GivenEmptyLaw = (given : ℕ → Bool) → AreGiven given no_signals no_memos

-- more names are given
abbrev pub GivenMoreLaw : Type 0
GivenMoreLaw = (before after : ℕ → Bool) (w : Signals) (k : Memos) → StayGiven before after → AreGiven before w k → AreGiven after w k

-- a cell is made under a name that was given
abbrev pub GivenCellLaw : Type 0
GivenCellLaw = (given : ℕ → Bool) (w : Signals) (k : Memos) (c : Cell) → given c.name ≡ true → AreGiven given w k →
    AreGiven given (with_cell w c) (after_making k c.name)

-- so is a computed, whose slots were given
abbrev pub GivenComputedLaw : Type 0
GivenComputedLaw = (given : ℕ → Bool) (w : Signals) (k : Memos) (c : Computed) → given c.name ≡ true → AllGiven given c.recipe.slots →
    AreGiven given w k → AreGiven given (with_computed w c) (after_making k c.name)

-- a set uses no more names
abbrev pub GivenSetLaw : Type 0
GivenSetLaw = (given : ℕ → Bool) (w : Signals) (k : Memos) (n : ℕ) (v : Value) → AreGiven given w k →
    AreGiven given (with_value w n v) (after_change k n)

-- a rewiring uses those of the other recipe
abbrev pub GivenRewireLaw : Type 0
GivenRewireLaw = (given : ℕ → Bool) (w : Signals) (k : Memos) (n : ℕ) (r : Recipe) → AllGiven given r.slots → AreGiven given w k →
    AreGiven given (with_recipe w n r) (after_rewiring k n)

-- a disposal uses no more names
abbrev pub GivenDisposeLaw : Type 0
GivenDisposeLaw = (given : ℕ → Bool) (w : Signals) (k : Memos) (n : ℕ) → AreGiven given w k → AreGiven given (without_signal w n) (after_disposal k n)

-- nor does settling: a run reads what its recipe has slots for
abbrev pub GivenSettleLaw : Type 0
GivenSettleLaw = (hosts : Hosts) (given : ℕ → Bool) (w : Signals) (k : Memos) (asked : List ℕ) → AreGiven given w k →
    AreGiven given w (settled hosts w k asked).memos
