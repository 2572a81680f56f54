use Rattle.follow_laws.proofs.SpokenSteps.{telling_law}
use Rattle.follow_laws.proofs.laws.telling_law.Goals as goal

pub returns : goal.returns
returns c = telling_law
