use Rattle.effect_laws.proofs.Flushes.{rest_law}
use Rattle.effect_laws.proofs.laws.rest_law.Goals as goal

pub returns : goal.returns
returns c = rest_law
