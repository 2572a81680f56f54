-- Computeds of one operator that are read at once.
use Rattle.std.specs.Prelude.{◌≡◌, ℕ, ◌++◌, List, codes, false}
use Rattle.sig_formula.specs.declared.formula.BinOp.{BinOp}
use Rattle.formula_text.specs.Canonical.{leaf_text, operator_text}
use Rattle.formula_text.specs.Refusals.{is_long}
use Rattle.formula_text.specs.RoundTrips.{IsPrintableLeaf}
use Rattle.formula_text.specs.Signs.{Leaf, name, constant}
use Rattle.script_items.specs.declared.operation.Operand.{Operand}
use Rattle.script_items.specs.declared.operation.Operand.TheVariants as operand

-- what an operand is in a formula
abbrev pub leaf_of : Operand → Leaf
leaf_of (operand.Name n) = name n
leaf_of (operand.Value v) = constant v

-- bytes are what is printed of an operand, which is no long text
pub record IsOperand (text : List ℕ) (o : Operand) : Type 0 where
  pub printed : text ≡ leaf_text (leaf_of o)
  pub prints : IsPrintableLeaf (leaf_of o)
  pub short : is_long (leaf_of o) ≡ false

-- a name, `=`, and an operator between two operands
abbrev pub operation_text : List ℕ → List ℕ → BinOp → List ℕ → List ℕ
operation_text n l o r = n ++ (codes " = " ++ (l ++ (codes " " ++ (operator_text o ++ (codes " " ++ r)))))
