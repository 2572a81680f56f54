use Rattle.signal_laws.proofs.AfterCreation.{cell_law}
use Rattle.signal_laws.proofs.laws.cell_law.Goals as goal

pub returns : goal.returns
returns c = cell_law
