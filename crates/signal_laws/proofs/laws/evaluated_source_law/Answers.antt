use Rattle.signal_laws.proofs.KeptPaths.{evaluated_source_law}
use Rattle.signal_laws.proofs.laws.evaluated_source_law.Goals as goal

pub returns : goal.returns
returns c = evaluated_source_law
