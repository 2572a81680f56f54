use Rattle.sig_computed.proofs.StepsEnd.{steps_lower_law}
use Rattle.sig_computed.proofs.laws.steps_lower_law.Goals as goal

pub returns : goal.returns
returns c = steps_lower_law
