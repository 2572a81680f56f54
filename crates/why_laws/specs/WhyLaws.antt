-- What changes and runs keep of a journal, and what its causes are.
use Rattle.std.specs.Prelude.{◌≡◌, ℕ, Bool, true, false, List, [], ◌∷◌, ◌++◌, map, reverse, Option, Some}
use Rattle.signal_model.specs.Recipes.{Hosts}
use Rattle.signal_model.specs.Signals.{Signals, is_there, standing}
use Rattle.signal_model.specs.Values.{evaluated}
use Rattle.signal_model.specs.Orders.{Visit, evaluation_order}
use Rattle.signal_model.specs.Memos.{Memo, Memos, memo_of, sources_in, must_run, is_cycle}
use Rattle.signal_model.specs.Settling.{Run, Settled, settled}
use Rattle.signal_model.specs.Changes.{no_memos, after_making, after_change, after_rewiring, after_disposal}
use Rattle.signal_model.specs.Kept.{AreKept, AreGiven, StayGiven}
use Rattle.signal_laws.specs.SettleLaws.{settled_first}
use Rattle.signal_laws.specs.RunLaws.{IsPlacedRun}
use Rattle.effect_model.specs.declared.how.How.TheVariants.{Set, Rewire, Gone}
use Rattle.why_model.specs.Facts.{Fact, was_changed}
use Rattle.why_model.specs.declared.causes.Cause.{Cause}
use Rattle.why_model.specs.declared.causes.Cause.TheVariants.{Evaluating}
use Rattle.why_model.specs.Chains.{cause_of}
use Rattle.why_model.specs.Told.{run_fact}
use Rattle.why_laws.specs.Ties.{AreTied, IsMet, IsWhy, NoneMoved}

-- nothing is kept, and nothing is noted
abbrev pub TiedEmptyLaw : Type 0
TiedEmptyLaw = (given : ℕ → Bool) → AreTied given no_memos []

-- more names are given
abbrev pub TiedMoreLaw : Type 0
TiedMoreLaw = (before after : ℕ → Bool) (k : Memos) (facts : List Fact) → StayGiven before after → AreTied before k facts → AreTied after k facts

-- a signal is made under a name that wasn't given, and nothing is noted
abbrev pub TiedMakeLaw : Type 0
TiedMakeLaw = (hosts : Hosts) (given : ℕ → Bool) (w : Signals) (k : Memos) (facts : List Fact) (n : ℕ) → AreKept hosts w k → AreGiven given w k →
    given n ≡ false → AreTied given k facts → AreTied given (after_making k n) facts

-- a cell that stands is set, or its rows are edited
abbrev pub TiedSetLaw : Type 0
TiedSetLaw = (hosts : Hosts) (given : ℕ → Bool) (w : Signals) (k : Memos) (facts : List Fact) (n : ℕ) → AreKept hosts w k →
    is_there (standing w n) ≡ true → AreTied given k facts → AreTied given (after_change k n) (was_changed n Set ∷ facts)

-- a computed that stands is rewired
abbrev pub TiedRewireLaw : Type 0
TiedRewireLaw = (hosts : Hosts) (given : ℕ → Bool) (w : Signals) (k : Memos) (facts : List Fact) (n : ℕ) → AreKept hosts w k →
    is_there (standing w n) ≡ true → AreTied given k facts → AreTied given (after_rewiring k n) (was_changed n Rewire ∷ facts)

-- a signal that stands is disposed
abbrev pub TiedDisposeLaw : Type 0
TiedDisposeLaw = (hosts : Hosts) (given : ℕ → Bool) (w : Signals) (k : Memos) (facts : List Fact) (n : ℕ) → AreKept hosts w k →
    is_there (standing w n) ≡ true → AreTied given k facts → AreTied given (after_disposal k n) (was_changed n Gone ∷ facts)

-- the facts of a journal with those of a settling, the last one first
abbrev pub facts_with : List Fact → Settled → List Fact
facts_with journal s = reverse (journal ++ map run_fact s.runs)

-- names are asked for, and each run is noted
abbrev pub TiedSettleLaw : Type 0
TiedSettleLaw = (hosts : Hosts) (given : ℕ → Bool) (w : Signals) (k : Memos) (journal : List Fact) (asked : List ℕ) → AreKept hosts w k →
    AreGiven given w k → AreTied given k (reverse journal) →
    AreTied given (settled hosts w k asked).memos (facts_with journal (settled hosts w k asked))

-- At each run of a settling, the cause that the facts so far give is that for which the computed must run. So where it is none of the first
-- four, the computed has met a source that was being evaluated.
abbrev pub CausesLaw : Type 0
CausesLaw = (hosts : Hosts) (given : ℕ → Bool) (w : Signals) (k : Memos) (journal : List Fact) (asked : List ℕ)
    (before later : List Visit) (v : Visit) →
    AreKept hosts w k → AreGiven given w k → AreTied given k (reverse journal) → evaluation_order hosts w asked ≡ before ++ v ∷ later →
    must_run (settled_first hosts w k before).memos v.computed.name v.path ≡ true →
    IsWhy (settled_first hosts w k before).memos v.path (memo_of (settled_first hosts w k before).memos v.computed.name)
    (cause_of v.computed.name (facts_with journal (settled_first hosts w k before)))

-- a run at its place, for which the facts before it give the cause for which its computed had to run
pub record IsExplained (hosts : Hosts) (w : Signals) (k : Memos) (asked : List ℕ) (journal : List Fact) (run : Run) : Type 0 where
  pub place : IsPlacedRun hosts w k asked run
  pub why : IsWhy (settled_first hosts w k place.before).memos place.visit.path (memo_of (settled_first hosts w k place.before).memos run.name)
      (cause_of run.name (reverse journal))

-- so it is of each of these runs, with those before it noted
abbrev pub AreExplained : Hosts → Signals → Memos → List ℕ → List Fact → List Run → Type 0
AreExplained hosts w k asked journal [] = Unit {0}
AreExplained hosts w k asked journal (r ∷ rs) =
    IsExplained hosts w k asked journal r × AreExplained hosts w k asked (journal ++ run_fact r ∷ []) rs

-- so each run of a settling is explained
abbrev pub RunsLaw : Type 0
RunsLaw = (hosts : Hosts) (given : ℕ → Bool) (w : Signals) (k : Memos) (journal : List Fact) (asked : List ℕ) → AreKept hosts w k →
    AreGiven given w k → AreTied given k (reverse journal) → AreExplained hosts w k asked journal (settled hosts w k asked).runs

-- where that for which a computed must run is none of the first four causes, a source that it keeps is being evaluated
abbrev pub MeetLaw : Type 0
MeetLaw = (k : Memos) (path : List ℕ) (x : Option Memo) (c : Cause) → IsWhy k path x c → c ≡ Evaluating → IsMet path (sources_in x)

-- A computed that must run only since a source that it keeps is being evaluated comes to `cycle`.
abbrev pub RoundLaw : Type 0
RoundLaw = (hosts : Hosts) (w : Signals) (k : Memos) (asked : List ℕ) (before later : List Visit) (v : Visit) (m : Memo) → AreKept hosts w k →
    evaluation_order hosts w asked ≡ before ++ v ∷ later → memo_of (settled_first hosts w k before).memos v.computed.name ≡ Some m →
    is_cycle m.outcome ≡ false → m.rewired ≡ false → NoneMoved (settled_first hosts w k before).memos m.sources → IsMet v.path m.sources →
    is_cycle (evaluated hosts w v.computed []).outcome ≡ true
