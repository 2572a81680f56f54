use Rattle.live_laws.proofs.Events.{hosts_law}
use Rattle.live_laws.proofs.laws.hosts_law.Goals as goal

pub returns : goal.returns
returns c = hosts_law
