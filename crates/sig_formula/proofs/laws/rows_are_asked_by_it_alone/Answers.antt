use Rattle.sig_formula.proofs.Aside.{rows_aside}
use Rattle.sig_formula.proofs.laws.rows_are_asked_by_it_alone.Goals as goal

pub returns : goal.returns
returns c = rows_aside
