use Rattle.live_laws.proofs.Refusals.{change_law}
use Rattle.live_laws.proofs.laws.change_law.Goals as goal

pub returns : goal.returns
returns c = change_law
