use Rattle.sig_computed.proofs.StepsEnd.{steps_end_law}
use Rattle.sig_computed.proofs.laws.steps_end_law.Goals as goal

pub returns : goal.returns
returns c = steps_end_law
