use Rattle.signal_laws.proofs.GivenNames.{given_next_law, given_cell_law, given_computed_law}
use Rattle.signal_laws.proofs.GivenNames.{given_set_law, given_rewire_law, given_dispose_law, given_settle_law}
use Rattle.signal_laws.proofs.laws.given_law.Goals as goal

pub returns-clause-next : goal.returns-clause-next
returns-clause-next c = given_next_law

pub returns-clause-cell : goal.returns-clause-cell
returns-clause-cell c = given_cell_law

pub returns-clause-computed : goal.returns-clause-computed
returns-clause-computed c = given_computed_law

pub returns-clause-set : goal.returns-clause-set
returns-clause-set c = given_set_law

pub returns-clause-rewire : goal.returns-clause-rewire
returns-clause-rewire c = given_rewire_law

pub returns-clause-dispose : goal.returns-clause-dispose
returns-clause-dispose c = given_dispose_law

pub returns-clause-settle : goal.returns-clause-settle
returns-clause-settle c = given_settle_law
