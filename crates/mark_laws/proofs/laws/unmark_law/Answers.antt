use Rattle.mark_laws.proofs.Unmarked.{searched_law, unmark_law}
use Rattle.mark_laws.proofs.laws.unmark_law.Goals as goal

pub returns-clause-alone : goal.returns-clause-alone
returns-clause-alone c = unmark_law

pub returns-clause-searched : goal.returns-clause-searched
returns-clause-searched c = searched_law
