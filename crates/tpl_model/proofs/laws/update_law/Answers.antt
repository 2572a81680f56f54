use Rattle.tpl_model.proofs.NextPage.Renewed.{update_law}
use Rattle.tpl_model.proofs.laws.update_law.Goals as goal

pub returns : goal.returns
returns c = update_law
