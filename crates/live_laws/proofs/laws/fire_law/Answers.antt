use Rattle.live_laws.proofs.Firing.{fire_so}
use Rattle.live_laws.proofs.laws.fire_law.Goals as goal

pub returns : goal.returns
returns c = fire_so
