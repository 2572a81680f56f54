use Rattle.signal_model.proofs.Marks.{mark_law}
use Rattle.signal_model.proofs.laws.mark_law.Goals as goal

pub returns : goal.returns
returns c = mark_law
