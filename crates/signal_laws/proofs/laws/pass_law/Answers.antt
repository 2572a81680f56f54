use Rattle.signal_laws.proofs.CleanVisits.{pass_law}
use Rattle.signal_laws.proofs.laws.pass_law.Goals as goal

pub returns : goal.returns
returns c = pass_law
