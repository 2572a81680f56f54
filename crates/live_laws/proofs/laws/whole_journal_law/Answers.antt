use Rattle.live_laws.proofs.WholeJournals.{whole_journal}
use Rattle.live_laws.proofs.laws.whole_journal_law.Goals as goal

pub returns : goal.returns
returns c = whole_journal c.beginning_law.ensures
