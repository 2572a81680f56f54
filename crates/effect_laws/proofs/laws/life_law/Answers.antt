use Rattle.effect_laws.proofs.Scripts.{life_law}
use Rattle.effect_laws.proofs.laws.life_law.Goals as goal

pub returns : goal.returns
returns c = life_law
