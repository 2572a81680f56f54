use Rattle.live_laws.proofs.Batches.{batch_change_law}
use Rattle.live_laws.proofs.laws.batch_change_law.Goals as goal

pub returns : goal.returns
returns c = batch_change_law
