use Rattle.signal_laws.proofs.Outcomes.{same_reads_law}
use Rattle.signal_laws.proofs.laws.same_reads_law.Goals as goal

pub returns : goal.returns
returns c = same_reads_law
