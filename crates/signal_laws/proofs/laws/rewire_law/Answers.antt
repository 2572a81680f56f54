use Rattle.signal_laws.proofs.AfterChange.{rewire_law}
use Rattle.signal_laws.proofs.laws.rewire_law.Goals as goal

pub returns : goal.returns
returns c = rewire_law
