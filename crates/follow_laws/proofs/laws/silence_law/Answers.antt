use Rattle.follow_laws.proofs.SilentSteps.{silence_law}
use Rattle.follow_laws.proofs.laws.silence_law.Goals as goal

pub returns : goal.returns
returns c = silence_law
