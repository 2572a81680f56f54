use Rattle.signal_laws.proofs.VisitStates.{again_law}
use Rattle.signal_laws.proofs.laws.again_law.Goals as goal

pub returns : goal.returns
returns c = again_law
