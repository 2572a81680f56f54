-- What holds of every answer.
use Rattle.std.specs.Prelude.{◌≡◌, ℕ, Bool, true, false, List, Option, None}
use Rattle.sig_base.specs.declared.value.Known.{Known}
use Rattle.sig_base.specs.declared.value.Value.{Value}
use Rattle.sig_base.specs.declared.value.Step.TheVariants.{Read}
use Rattle.sig_formula.specs.declared.evaluate.FormulaStep.TheVariants.{Ask}
use Rattle.sig_formula.specs.declared.formula.RowRef.{RowRef}
use Rattle.sig_formula.specs.Evaluation.{answer_of, formula_step, known_at, served}
use Rattle.sig_formula.specs.Trees.{Tree, has_slot, needs_row}

-- of a slot that a formula asks for: nothing that was read serves it, and it is a slot of the formula
pub record IsAskable (t : Tree) (found : Option Value) (n : ℕ) : Type 0 where
  pub unknown : found ≡ None
  pub own : has_slot n t ≡ true

-- a formula asks only for such slots
abbrev pub FormulaAsks : Type 0
FormulaAsks = (tracking : Bool) (t : Tree) (row : Option RowRef) (ts us : List Known) (n : ℕ) (tracked : Bool) →
    formula_step tracking t row ts us ≡ Ask n tracked → IsAskable t (served tracked n ts us) n

-- also where nothing is tracked apart
abbrev pub AsksAskable : Type 0
AsksAskable = (t : Tree) (row : Option RowRef) (known : List Known) (n : ℕ) → answer_of t row known ≡ Read n → IsAskable t (known_at n known) n

-- a formula that speaks of no given row answers the same whatever row there is
abbrev pub RowsAside : Type 0
RowsAside = (tracking : Bool) (t : Tree) (row other : Option RowRef) (ts us : List Known) → needs_row t ≡ false →
    formula_step tracking t row ts us ≡ formula_step tracking t other ts us
