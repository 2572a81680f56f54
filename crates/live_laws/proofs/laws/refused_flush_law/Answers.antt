use Rattle.live_laws.proofs.Refusals.{refused_flush_law}
use Rattle.live_laws.proofs.laws.refused_flush_law.Goals as goal

pub returns : goal.returns
returns c = refused_flush_law
