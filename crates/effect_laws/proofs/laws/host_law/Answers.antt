use Rattle.effect_laws.proofs.HostUse.{host_law}
use Rattle.effect_laws.proofs.laws.host_law.Goals as goal

pub returns : goal.returns
returns c = host_law
