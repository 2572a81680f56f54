use Rattle.formula_text.proofs.Minimal.{one_formula}
use Rattle.formula_text.proofs.theorems.one_formula.Goals as goal

pub returns : goal.returns
returns c = one_formula
