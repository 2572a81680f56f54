-- What a body is evaluated to.
use Rattle.std.specs.Prelude.{◌≡◌, ℕ, ◌<◌, ◌≤◌, Bool, true, false, List, [], ◌∷◌, length, slice_index, Option, Some, None}
use Rattle.sig_base.specs.declared.value.Value.{Value}
use Rattle.sig_base.specs.declared.value.Known.{Known}
use Rattle.sig_base.specs.declared.value.Outcome.{Outcome}
use Rattle.sig_base.specs.declared.value.Outcome.TheVariants.{Bad, Good}
use Rattle.sig_base.specs.Values.{same_outcome, same_value}
use Rattle.sig_formula.specs.Trees as trees
use Rattle.signal_model.specs.Signals.{Signals, standing}
use Rattle.signal_model.specs.Values.{Seen, learnt}
use Rattle.effect_model.specs.Bodies as model
use Rattle.effect_model.specs.Bodies.{BodyEvaluation, BodyResult, to_do, to_log, failed_by}
use Rattle.effect_model.specs.declared.plain.Plain.TheVariants as lines
use Rattle.effect_laws.specs.Asks.{AreFit}
use Rattle.sig_nodes.specs.Answers.{value_here}
use Rattle.sig_untrack.specs.declared.body.Body.{Body}
use Rattle.sig_untrack.specs.Stated.{before, no_bodies, no_more, plain, statements_of}
use Rattle.sig_untrack.specs.Links.{Parts, acts_of, linked}
use Rattle.effect_runs.specs.declared.at_once.LoggedCell.{LoggedCell}
use Rattle.effect_runs.specs.declared.run.BodyEnd.{BodyEnd}
use Rattle.effect_runs.specs.declared.run.BodyEnd.TheVariants.{Acts, Fail}
use Rattle.effect_runs.specs.declared.run.BodyRun.{BodyRun}

-- the body that is meant, by what its places and its slots stand for
abbrev pub body_seen : Parts → Body → List ℕ → model.Body
body_seen p b names = record { statements = linked p (statements_of (before b no_bodies)); names = names }

-- each slot of its formulas has a name, whatever its places stand for
abbrev pub HasNames : Body → List ℕ → Type 0
HasNames b names = (p : Parts) → AreFit (length names) (body_seen p b names).statements

-- the end that is meant
abbrev pub result_of : Parts → BodyEnd → BodyResult
result_of p (Acts as') = to_do (acts_of p as'.items)
result_of p (Fail e) = failed_by e

-- at most so many acts are to be done
abbrev pub IsShort : ℕ → BodyEnd → Type 0
IsShort n (Acts as') = length as'.items ≤ n
IsShort n (Fail e) = Unit {0}

-- a run has the tracked reads of an evaluation, and ends as it does
pub record IsRunOf (p : Parts) (e : BodyEvaluation) (r : BodyRun) : Type 0 where
  pub tracked : r.tracked.items ≡ e.tracked
  pub result : result_of p r.end ≡ e.result

-- a body logs what the signal of a name is read as, and does nothing else
pub record LogsName (n : ℕ) (b : Body) (names : List ℕ) : Type 0 where
  pub slot : ℕ
  pub logs : statements_of (before b no_bodies) ≡ plain (lines.Log (trees.slot slot)) no_more
  pub within : slot < length names
  pub name : n ≡ slice_index names slot

-- and that is a cell of this value
pub record LogsCell (w : Signals) (b : Body) (names : List ℕ) (l : LoggedCell) : Type 0 where
  pub logs : LogsName l.read.name b names
  pub stands : value_here (standing w l.read.name) ≡ Some l.value
  pub good : l.read.outcome ≡ Good l.value

-- so this comes of it, where that is a value
pub record IsLogged (n : ℕ) (v : Value) (r : BodyRun) : Type 0 where
  pub tracked : r.tracked.items ≡ record { name = n; outcome = Good v } ∷ []
  pub end : (p : Parts) → result_of p r.end ≡ to_do (to_log v ∷ [])
  pub few : IsShort 1 r.end

-- a body that logs the value of a cell, and does nothing else, comes to this
pub record HasLogged (w : Signals) (b : Body) (names : List ℕ) (r : BodyRun) : Type 0 where
  pub cell : ℕ
  pub value : Value
  pub logs : LogsName cell b names
  pub stands : value_here (standing w cell) ≡ Some value
  pub logged : IsLogged cell value r

-- one more slot is known, where the read is of this kind
abbrev pub learnt_if : Bool → List Known → ℕ → Value → List Known
learnt_if true known s v = learnt known s v
learnt_if false known s v = known

-- whether a cell has the value that an outcome is
abbrev pub has_value : Option Value → Outcome → Bool
has_value (Some v) (Good u) = same_value v u
has_value (Some v) (Bad e) = false
has_value None o = false

-- whether what was read is a cell that has the value still that was read
abbrev pub is_still : Signals → Seen → Bool
is_still w s = has_value (value_here (standing w s.name)) s.outcome

-- what was read is a cell, and this tells whether it has the value still that was read
pub record IsToldOf (w : Signals) (s : Seen) (b : Bool) : Type 0 where
  pub value : Value
  pub stands : value_here (standing w s.name) ≡ Some value
  pub same : b ≡ same_outcome (Good value) s.outcome
