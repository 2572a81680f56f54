use Rattle.mark_laws.proofs.Unmarked.{prune_law, unmarked_law}
use Rattle.mark_laws.proofs.laws.unmarked_law.Goals as goal

pub returns-clause-clean : goal.returns-clause-clean
returns-clause-clean c = unmarked_law

pub returns-clause-pruned : goal.returns-clause-pruned
returns-clause-pruned c = prune_law
