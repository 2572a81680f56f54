use Rattle.tpl_model.proofs.Needs.Needed.{next_law}
use Rattle.tpl_model.proofs.laws.next_law.Goals as goal

pub returns : goal.returns
returns c = next_law
