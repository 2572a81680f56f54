use Rattle.signal_laws.proofs.Outcomes.{reading_law}
use Rattle.signal_laws.proofs.laws.reading_law.Goals as goal

pub returns : goal.returns
returns c = reading_law
