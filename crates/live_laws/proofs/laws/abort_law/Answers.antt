use Rattle.live_laws.proofs.Batches.{abort_law}
use Rattle.live_laws.proofs.laws.abort_law.Goals as goal

pub returns : goal.returns
returns c = abort_law
