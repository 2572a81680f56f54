use Rattle.signal_model.proofs.Paths.{path_law}
use Rattle.signal_model.proofs.laws.path_law.Goals as goal

pub returns : goal.returns
returns c = path_law
