use Rattle.signal_laws.proofs.AfterChange.{empty_law}
use Rattle.signal_laws.proofs.laws.empty_law.Goals as goal

pub returns : goal.returns
returns c = empty_law
