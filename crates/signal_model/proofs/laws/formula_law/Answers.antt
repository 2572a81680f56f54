use Rattle.signal_model.proofs.Formulas.{formula_law}
use Rattle.signal_model.proofs.laws.formula_law.Goals as goal

pub returns : goal.returns
returns c = formula_law
