use Rattle.signal_laws.proofs.CleanMoments.{clean_moments_law}
use Rattle.signal_laws.proofs.laws.clean_moments_law.Goals as goal

pub returns : goal.returns
returns c = clean_moments_law
