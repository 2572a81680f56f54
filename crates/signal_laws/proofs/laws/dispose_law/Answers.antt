use Rattle.signal_laws.proofs.AfterChange.{dispose_law}
use Rattle.signal_laws.proofs.laws.dispose_law.Goals as goal

pub returns : goal.returns
returns c = dispose_law
