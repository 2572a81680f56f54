use Rattle.live_laws.proofs.Events.{ends_law}
use Rattle.live_laws.proofs.laws.ends_law.Goals as goal

pub returns : goal.returns
returns c = ends_law
