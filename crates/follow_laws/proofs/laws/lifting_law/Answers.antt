use Rattle.follow_laws.proofs.FollowedItems.{lifting_law}
use Rattle.follow_laws.proofs.laws.lifting_law.Goals as goal

pub returns : goal.returns
returns c = lifting_law
