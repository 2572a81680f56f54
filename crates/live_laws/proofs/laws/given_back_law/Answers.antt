use Rattle.live_laws.proofs.Batches.{given_back_law}
use Rattle.live_laws.proofs.laws.given_back_law.Goals as goal

pub returns : goal.returns
returns c = given_back_law
