use Rattle.tpl_model.proofs.Needs.Needed.{last_law}
use Rattle.tpl_model.proofs.laws.last_law.Goals as goal

pub returns : goal.returns
returns c = last_law
