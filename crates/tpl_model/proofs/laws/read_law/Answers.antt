use Rattle.tpl_model.proofs.PageUpdates.Numbers.{read_law}
use Rattle.tpl_model.proofs.laws.read_law.Goals as goal

pub returns : goal.returns
returns c = read_law
