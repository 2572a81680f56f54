use Rattle.live_laws.proofs.Cuts.{entries_law}
use Rattle.live_laws.proofs.laws.entries_cut.Goals as goal

pub returns : goal.returns
returns c = entries_law
