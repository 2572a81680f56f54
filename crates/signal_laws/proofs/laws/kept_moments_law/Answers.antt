use Rattle.signal_laws.proofs.VisitStates.{kept_moments_law}
use Rattle.signal_laws.proofs.laws.kept_moments_law.Goals as goal

pub returns : goal.returns
returns c = kept_moments_law
