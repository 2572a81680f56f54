use Rattle.signal_model.proofs.Marks.{below_law}
use Rattle.signal_model.proofs.laws.below_law.Goals as goal

pub returns : goal.returns
returns c = below_law
