use Rattle.effect_laws.proofs.Notified.{notified_law}
use Rattle.effect_laws.proofs.laws.notified_law.Goals as goal

pub returns : goal.returns
returns c = notified_law
