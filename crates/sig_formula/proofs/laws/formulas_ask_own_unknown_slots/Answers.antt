use Rattle.sig_formula.proofs.Asks.{asks_askable, formula_asks}
use Rattle.sig_formula.proofs.laws.formulas_ask_own_unknown_slots.Goals as goal

pub returns-clause-tracking : goal.returns-clause-tracking
returns-clause-tracking c = formula_asks

pub returns-clause-plain : goal.returns-clause-plain
returns-clause-plain c = asks_askable
