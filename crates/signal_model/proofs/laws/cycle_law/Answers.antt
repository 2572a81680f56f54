use Rattle.signal_model.proofs.Paths.{cycle_law}
use Rattle.signal_model.proofs.laws.cycle_law.Goals as goal

pub returns : goal.returns
returns c = cycle_law
