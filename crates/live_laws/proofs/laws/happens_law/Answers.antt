use Rattle.live_laws.proofs.Events.{happens_law}
use Rattle.live_laws.proofs.laws.happens_law.Goals as goal

pub returns : goal.returns
returns c = happens_law
