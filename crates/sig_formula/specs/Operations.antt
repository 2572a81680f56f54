-- What is told at once of a formula of few operations.
use Rattle.std.specs.Prelude.{◌≡◌, ◌++◌, false, List, [], Some, None}
use Rattle.sig_base.specs.declared.value.Known.{Known}
use Rattle.sig_base.specs.declared.value.Step.{Step}
use Rattle.sig_base.specs.declared.value.Value.{Value}
use Rattle.sig_base.specs.declared.value.Value.TheVariants as value
use Rattle.sig_base.specs.declared.value.Outcome.{Outcome}
use Rattle.sig_base.specs.declared.value.Outcome.TheVariants.{Good}
use Rattle.sig_formula.specs.declared.at_once.AtOnce.{AtOnce}
use Rattle.sig_formula.specs.declared.at_once.AtOnce.TheVariants as at_once
use Rattle.sig_formula.specs.declared.at_once.Told.{Told}
use Rattle.sig_formula.specs.declared.at_once.Told.TheVariants.{Slot as SlotTold, Ended, Open}
use Rattle.sig_formula.specs.Evaluation.{formula_step, known_at, step_by}
use Rattle.sig_formula.specs.Trees.{Tree, slot}
use Rattle.sig_formula.specs.declared.parts.Part.{Part}
use Rattle.sig_formula.specs.declared.parts.Part.TheVariants as part
use Rattle.sig_formula.specs.declared.at_once.Operand.{Operand}
use Rattle.sig_formula.specs.declared.at_once.Operand.TheVariants as operand
use Rattle.sig_formula.specs.declared.evaluate.FormulaStep.{FormulaStep}
use Rattle.sig_formula.specs.declared.evaluate.FormulaStep.TheVariants.{Ask, End}

-- the step that is told of a formula, by what it comes to; where nothing is told, it may be any
abbrev pub told : AtOnce → Outcome → FormulaStep → FormulaStep
told (at_once.Ask n tracked) o s = Ask n tracked
told at_once.End o s = End o
told at_once.Open o s = s

-- the same of an operand
abbrev pub operand_told : Operand → FormulaStep → FormulaStep
operand_told (operand.Ask n tracked) s = Ask n tracked
operand_told (operand.Number m) s = End (Good (value.Int m))
operand_told operand.Open s = s

-- what is told of a formula by what it comes to is the step that it answers; where nothing is told, that may be any
abbrev pub IsTold : Told → Outcome → Step → Type 0
IsTold (SlotTold n) o s = step_by (Some n) o ≡ s
IsTold Ended o s = step_by None o ≡ s
IsTold Open o s = Unit {0}

-- a part that comes to a value, also where more is known
abbrev pub StaysGood : Tree → List Known → Value → Type 0
StaysGood t known v = (more : List Known) → formula_step false t None (known ++ more) [] ≡ End (Good v)

-- what is told of a part: the slot that it is and that isn't known, or the whole number or truth that it is, also where more is known
abbrev pub IsPartTold : Part → Tree → List Known → Type 0
IsPartTold (part.Slot n) t known = (t ≡ slot n) × (known_at n known ≡ None)
IsPartTold (part.Number m) t known = StaysGood t known (value.Int m)
IsPartTold (part.Truth b) t known = StaysGood t known (value.Bool b)
IsPartTold part.Open t known = Unit {0}
