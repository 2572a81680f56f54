use Rattle.tpl_model.proofs.NextPage.Children.{children_law}
use Rattle.tpl_model.proofs.laws.children_law.Goals as goal

pub returns : goal.returns
returns c = children_law
