-- What the recorded runs read.
use Rattle.std.specs.Prelude.{◌≡◌, ℕ, true, List, [], ◌∷◌, ◌++◌, Some, ◌⊎◌}
use Rattle.std.specs.List.{AllByRecursion}
use Rattle.sig_base.specs.declared.value.Fault.TheVariants.{Cycle}
use Rattle.sig_base.specs.declared.value.Outcome.TheVariants.{Bad}
use Rattle.signal_model.specs.Recipes.{Hosts}
use Rattle.signal_model.specs.Signals.{Signals, Computed, IsComputed, is_in, standing}
use Rattle.signal_model.specs.Values.{Seen, value_of, evaluated}
use Rattle.signal_model.specs.Orders.{Visit, evaluation_order}
use Rattle.signal_model.specs.Memos.{Memos, must_run}
use Rattle.signal_model.specs.Settling.{Run, settled}
use Rattle.signal_laws.specs.SettleLaws.{settled_first}
use Rattle.signal_model.specs.Sound.{standing_outcome}
use Rattle.signal_model.specs.Kept.{AreKept}

-- a read has the value from scratch
abbrev pub IsScratchRead : Hosts → Signals → Seen → Type 0
IsScratchRead hosts w s = s.outcome ≡ value_of hosts w s.name []

-- a run from scratch: the evaluation of its computed, whose reads and outcome are the values from scratch
pub record IsScratchRun (hosts : Hosts) (w : Signals) (run : Run) : Type 0 where
  pub computed : Computed
  pub stands : standing w run.name ≡ IsComputed computed
  pub evaluation : run.evaluation ≡ evaluated hosts w computed []
  pub reads : AllByRecursion (IsScratchRead hosts w) run.evaluation.reads
  pub outcome : run.evaluation.outcome ≡ value_of hosts w run.name []

-- a run at its place: the visit of its computed in the order of evaluation, where it must run
pub record IsPlacedRun (hosts : Hosts) (w : Signals) (k : Memos) (asked : List ℕ) (run : Run) : Type 0 where
  pub before : List Visit
  pub visit : Visit
  pub later : List Visit
  pub order : evaluation_order hosts w asked ≡ before ++ visit ∷ later
  pub name : run.name ≡ visit.computed.name
  pub due : must_run (settled_first hosts w k before).memos visit.computed.name visit.path ≡ true

-- what was read stands so at that moment, or it is being evaluated, and was read as `cycle`
abbrev pub IsShown : Signals → Memos → List ℕ → Seen → Type 0
IsShown w k path s = (standing_outcome w k s.name ≡ Some s.outcome) ⊎ ((is_in s.name path ≡ true) × (s.outcome ≡ Bad Cycle))

-- a run from scratch, at its place, that read what stood there
pub record IsCurrentRun (hosts : Hosts) (w : Signals) (k : Memos) (asked : List ℕ) (run : Run) : Type 0 where
  pub scratch : IsScratchRun hosts w run
  pub place : IsPlacedRun hosts w k asked run
  pub shown : AllByRecursion
      (IsShown w (settled_first hosts w k place.before).memos (place.visit.computed.name ∷ place.visit.path)) run.evaluation.reads

-- each recorded run is from scratch, on the signals of that moment, whatever was kept before
abbrev pub ScratchRunsLaw : Type 0
ScratchRunsLaw = (hosts : Hosts) (w : Signals) (k : Memos) (asked : List ℕ) → AllByRecursion (IsScratchRun hosts w) (settled hosts w k asked).runs

-- and at its place
abbrev pub PlacedRunsLaw : Type 0
PlacedRunsLaw = (hosts : Hosts) (w : Signals) (k : Memos) (asked : List ℕ) →
    AllByRecursion (IsPlacedRun hosts w k asked) (settled hosts w k asked).runs

-- where what was kept is sound, each read only what stood at its moment
abbrev pub CurrencyLaw : Type 0
CurrencyLaw = (hosts : Hosts) (w : Signals) (k : Memos) (asked : List ℕ) → AreKept hosts w k →
    AllByRecursion (IsCurrentRun hosts w k asked) (settled hosts w k asked).runs
