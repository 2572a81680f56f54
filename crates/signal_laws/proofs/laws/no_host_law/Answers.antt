use Rattle.signal_laws.proofs.Outcomes.{no_host_law}
use Rattle.signal_laws.proofs.laws.no_host_law.Goals as goal

pub returns : goal.returns
returns c = no_host_law
