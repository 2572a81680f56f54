use Rattle.signal_laws.proofs.AfterChange.{set_law}
use Rattle.signal_laws.proofs.laws.set_law.Goals as goal

pub returns : goal.returns
returns c = set_law
