use Rattle.signal_laws.proofs.Outcomes.{next_read_law}
use Rattle.signal_laws.proofs.laws.next_read_law.Goals as goal

pub returns : goal.returns
returns c = next_read_law
