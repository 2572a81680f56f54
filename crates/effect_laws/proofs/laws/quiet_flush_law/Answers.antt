use Rattle.effect_laws.proofs.QuietFlush.{quiet_flush_law}
use Rattle.effect_laws.proofs.laws.quiet_flush_law.Goals as goal

pub returns : goal.returns
returns c = quiet_flush_law
