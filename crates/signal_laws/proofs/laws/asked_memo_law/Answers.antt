use Rattle.signal_laws.proofs.VisitStates.{asked_memo_law}
use Rattle.signal_laws.proofs.laws.asked_memo_law.Goals as goal

pub returns : goal.returns
returns c = asked_memo_law
