use Rattle.tpl_model.proofs.NextPage.KeptNodes.{told_law}
use Rattle.tpl_model.proofs.laws.told_law.Goals as goal

pub returns : goal.returns
returns c = told_law
