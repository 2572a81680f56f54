use Rattle.follow_laws.proofs.FollowedItems.{follow_law}
use Rattle.follow_laws.proofs.SilentSteps.{silence_law}
use Rattle.follow_laws.proofs.SpokenSteps.{telling_law}
use Rattle.follow_laws.proofs.laws.follow_law.Goals as goal

pub returns : goal.returns
returns c = follow_law c.live_law.ensures telling_law silence_law
