use Rattle.sig_computed.proofs.StepsHold.{steps_settle_law}
use Rattle.sig_computed.proofs.laws.steps_settle_law.Goals as goal

pub returns : goal.returns
returns c = steps_settle_law
