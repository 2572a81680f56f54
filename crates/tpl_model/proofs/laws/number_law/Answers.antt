use Rattle.tpl_model.proofs.PageUpdates.Numbers.{number_law}
use Rattle.tpl_model.proofs.laws.number_law.Goals as goal

pub returns : goal.returns
returns c = number_law
