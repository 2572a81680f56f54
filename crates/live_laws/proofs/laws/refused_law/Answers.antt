use Rattle.live_laws.proofs.Refusals.{refused_law}
use Rattle.live_laws.proofs.laws.refused_law.Goals as goal

pub returns : goal.returns
returns c = refused_law
