use Rattle.tpl_model.proofs.NextPage.Arrivals.{order_law}
use Rattle.tpl_model.proofs.laws.order_law.Goals as goal

pub returns : goal.returns
returns c = order_law
