use Rattle.sig_computed.proofs.Skips.{passing_law}
use Rattle.sig_computed.proofs.laws.passing_law.Goals as goal

pub returns : goal.returns
returns c = passing_law
