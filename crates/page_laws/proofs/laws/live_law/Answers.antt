use Rattle.page_laws.proofs.LivePages.{live_law}
use Rattle.page_laws.proofs.laws.live_law.Goals as goal

pub returns : goal.returns
returns c = live_law c.one_reading.ensures
