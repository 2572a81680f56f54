use Rattle.formula_text.proofs.RoundTrips.{read_back, read_whole}
use Rattle.formula_text.proofs.theorems.written_formulas_read_back.Goals as goal

pub returns-clause-alone : goal.returns-clause-alone
returns-clause-alone c = read_whole

pub returns-clause-in_line : goal.returns-clause-in_line
returns-clause-in_line c = read_back
