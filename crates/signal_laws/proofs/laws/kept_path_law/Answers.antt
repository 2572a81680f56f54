use Rattle.signal_laws.proofs.KeptPaths.{kept_path_law}
use Rattle.signal_laws.proofs.laws.kept_path_law.Goals as goal

pub returns : goal.returns
returns c = kept_path_law
