use Rattle.live_laws.proofs.Events.{explained}
use Rattle.live_laws.proofs.laws.explained_law.Goals as goal

pub returns : goal.returns
returns c = explained c.journal_law.ensures
