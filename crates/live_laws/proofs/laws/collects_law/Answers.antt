use Rattle.live_laws.proofs.Batches.{collects_law}
use Rattle.live_laws.proofs.laws.collects_law.Goals as goal

pub returns : goal.returns
returns c = collects_law
