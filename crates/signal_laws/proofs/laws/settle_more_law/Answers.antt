use Rattle.signal_laws.proofs.NameByName.{settle_both_law, settle_more_law}
use Rattle.signal_laws.proofs.laws.settle_more_law.Goals as goal

pub returns-clause-lists : goal.returns-clause-lists
returns-clause-lists c = settle_both_law

pub returns-clause-name : goal.returns-clause-name
returns-clause-name c = settle_more_law
