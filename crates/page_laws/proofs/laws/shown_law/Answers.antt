use Rattle.page_laws.proofs.LivePages.{shown_law}
use Rattle.page_laws.proofs.laws.shown_law.Goals as goal

pub returns : goal.returns
returns c = shown_law
