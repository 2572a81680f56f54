use Rattle.live_run.proofs.Completeness.{complete}
use Rattle.live_run.proofs.laws.complete_law.Goals as goal

pub returns : goal.returns
returns c = complete
