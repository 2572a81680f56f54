use Rattle.tpl_model.proofs.NextPage.Edits.{operations_law}
use Rattle.tpl_model.proofs.laws.operations_law.Goals as goal

pub returns : goal.returns
returns c = operations_law
