-- What ends the statements of a body before their last.
use Rattle.std.specs.Prelude.{Bool, List, Option, Some, None, Result, Ok, Err, if◌then◌else◌}
use Rattle.sig_base.specs.declared.value.Value.{Value}
use Rattle.sig_base.specs.declared.value.Outcome.TheVariants.{Good, Bad}
use Rattle.sig_formula.specs.declared.evaluate.FormulaStep.{FormulaStep}
use Rattle.sig_formula.specs.declared.evaluate.FormulaStep.TheVariants.{Ask, End}
use Rattle.effect_model.specs.Bodies.{Act, BodyStep, reads, fails, and_then, followed_by}
use Rattle.sig_untrack.specs.declared.evaluate.Stop.{Stop}
use Rattle.sig_untrack.specs.declared.evaluate.Stop.TheVariants as stop

-- what a formula answered: a value, or why the body ends
abbrev pub answered : Result Value Stop → FormulaStep
answered (Ok v) = End (Good v)
answered (Err (stop.Read s tracked)) = Ask s tracked
answered (Err (stop.Fail e)) = End (Bad e)

-- the acts so far and then the rest, unless something ended the body before
abbrev pub stopped : Option Stop → List Act → BodyStep → BodyStep
stopped None as' rest = followed_by as' rest
stopped (Some (stop.Read s tracked)) as' rest = reads s tracked
stopped (Some (stop.Fail e)) as' rest = fails e

-- what is guarded and the rest, where a guard is this, or what ended the body at it
abbrev pub guarded_by : Result Bool Stop → BodyStep → BodyStep → BodyStep
guarded_by (Ok b) inner rest = if b then and_then inner rest else rest
guarded_by (Err (stop.Read s tracked)) inner rest = reads s tracked
guarded_by (Err (stop.Fail e)) inner rest = fails e
