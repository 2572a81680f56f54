use Rattle.signal_model.proofs.Marks.{search_law}
use Rattle.signal_model.proofs.laws.search_law.Goals as goal

pub returns : goal.returns
returns c = search_law
