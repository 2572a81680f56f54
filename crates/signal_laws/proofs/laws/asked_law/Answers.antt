use Rattle.signal_laws.proofs.VisitStates.{asked_law}
use Rattle.signal_laws.proofs.laws.asked_law.Goals as goal

pub returns : goal.returns
returns c = asked_law
