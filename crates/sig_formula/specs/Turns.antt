-- In what turn the parts of a formula are evaluated, and what is told of the whole by what they come to.
use Rattle.std.specs.Prelude.{◌≡◌, Bool, false, List, [], Option, Some, None, is_none, if◌then◌else◌}
use Rattle.sig_base.specs.declared.value.Known.{Known}
use Rattle.sig_base.specs.declared.value.Value.{Value}
use Rattle.sig_base.specs.declared.value.Value.TheVariants as value
use Rattle.sig_base.specs.declared.value.Outcome.{Outcome}
use Rattle.sig_base.specs.declared.value.Outcome.TheVariants.{Good}
use Rattle.sig_formula.specs.declared.evaluate.FormulaStep.TheVariants.{Ask}
use Rattle.sig_formula.specs.declared.formula.BinOp.{BinOp}
use Rattle.sig_formula.specs.declared.parts.Part.{Part}
use Rattle.sig_formula.specs.declared.parts.Part.TheVariants as part
use Rattle.sig_formula.specs.Evaluation.{decided, formula_step, operated}
use Rattle.sig_formula.specs.Operations.{StaysGood}
use Rattle.sig_formula.specs.Trees.{Tree, binary, choice, negation}

-- the part that is evaluated first
abbrev pub first_in : Tree → Option Tree
first_in (negation a) = Some a
first_in (binary o a b) = Some a
first_in (choice t a b) = Some t
first_in _ = None

-- the value that a part is told to be
abbrev pub told_value : Part → Option Value
told_value (part.Number m) = Some (value.Int m)
told_value (part.Truth b) = Some (value.Bool b)
told_value (part.Slot n) = None
told_value part.Open = None

-- whether an operator goes on with its right operand, by the value of its left one
abbrev pub goes_on : BinOp → Option Value → Bool
goes_on o None = false
goes_on o (Some v) = is_none (decided o v)

-- the branch that a truth chooses
abbrev pub branch_in : Option Value → Tree → Tree → Option Tree
branch_in (Some (value.Bool b)) x y = Some (if b then x else y)
branch_in _ x y = None

-- the part that is evaluated next, by what is told of the first
abbrev pub next_in : Tree → Part → Option Tree
next_in (binary o a b) p = if goes_on o (told_value p) then Some b else None
next_in (choice t a b) p = branch_in (told_value p) a b
next_in _ p = None

-- what a part comes to by the values known so far: the slot that it asks for, or its value, also where more is known
abbrev pub IsPartRead : Part → Tree → List Known → Type 0
IsPartRead (part.Slot n) t known = formula_step false t None known [] ≡ Ask n false
IsPartRead (part.Number m) t known = StaysGood t known (value.Int m)
IsPartRead (part.Truth b) t known = StaysGood t known (value.Bool b)
IsPartRead part.Open t known = Unit {0}

-- the part that an outcome is, where it is a whole number or a truth
abbrev pub IsPartOf : Part → Outcome → Type 0
IsPartOf (part.Number m) o = o ≡ Good (value.Int m)
IsPartOf (part.Truth b) o = o ≡ Good (value.Bool b)
IsPartOf (part.Slot n) o = ⊥
IsPartOf part.Open o = Unit {0}

-- the truth that an operator comes to by its left operand alone
abbrev pub IsDecided : Part → BinOp → Bool → Type 0
IsDecided (part.Truth b) o t = decided o (value.Bool t) ≡ Some (Good (value.Bool b))
IsDecided (part.Number m) o t = ⊥
IsDecided (part.Slot n) o t = ⊥
IsDecided part.Open o t = Unit {0}

-- what an operator makes of two values
abbrev pub operated_told : BinOp → Option Value → Option Value → Option Outcome
operated_told o (Some v) (Some w) = Some (operated o v w)
operated_told o _ _ = None

-- what is told of an operation by its operands: the slot that the right one asks for, or what it makes of the two
abbrev pub IsOperated : Part → BinOp → Part → Part → Type 0
IsOperated (part.Slot n) o p q = q ≡ part.Slot n
IsOperated (part.Number m) o p q = operated_told o (told_value p) (told_value q) ≡ Some (Good (value.Int m))
IsOperated (part.Truth b) o p q = operated_told o (told_value p) (told_value q) ≡ Some (Good (value.Bool b))
IsOperated part.Open o p q = Unit {0}
