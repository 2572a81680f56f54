use Rattle.signal_laws.proofs.VisitStates.{settle_law}
use Rattle.signal_laws.proofs.laws.settle_law.Goals as goal

pub returns : goal.returns
returns c = settle_law
