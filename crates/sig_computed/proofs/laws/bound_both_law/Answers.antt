use Rattle.sig_computed.proofs.Bounds.{bound_both_law}
use Rattle.sig_computed.proofs.laws.bound_both_law.Goals as goal

pub returns : goal.returns
returns c = bound_both_law
