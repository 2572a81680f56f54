use Rattle.live_laws.proofs.Batches.{commit_law}
use Rattle.live_laws.proofs.laws.commit_law.Goals as goal

pub returns : goal.returns
returns c = commit_law
