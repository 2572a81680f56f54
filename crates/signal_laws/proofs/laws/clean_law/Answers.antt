use Rattle.signal_laws.proofs.CleanVisits.{clean_law}
use Rattle.signal_laws.proofs.laws.clean_law.Goals as goal

pub returns : goal.returns
returns c = clean_law
