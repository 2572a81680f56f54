use Rattle.signal_model.proofs.Visits.{order_law}
use Rattle.signal_model.proofs.laws.order_law.Goals as goal

pub returns : goal.returns
returns c = order_law
