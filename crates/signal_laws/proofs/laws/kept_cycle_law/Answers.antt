use Rattle.signal_laws.proofs.KeptPaths.{kept_cycle_law}
use Rattle.signal_laws.proofs.laws.kept_cycle_law.Goals as goal

pub returns : goal.returns
returns c = kept_cycle_law
