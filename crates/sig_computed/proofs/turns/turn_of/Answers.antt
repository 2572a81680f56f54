use Rattle.std.proofs.Common.{rules}
use Rattle.sig_computed.proofs.turns.turn_of.Goals as goal

-- what the frame is doing is put into each goal first, and what is left is a clause of the look
pub returns-in-Looking-clause-turn : goal.returns-in-Looking-clause-turn
returns-in-Looking-clause-turn g c = λ hosts all. rw c.in-Looking.is (search rules)

pub returns-in-Looking-clause-some : goal.returns-in-Looking-clause-some
returns-in-Looking-clause-some g c = rw c.in-Looking.is (search rules)

pub returns-in-Looking-clause-after : goal.returns-in-Looking-clause-after
returns-in-Looking-clause-after g c = rw c.in-Looking.is (search rules)

pub returns-in-LookedAt-clause-turn : goal.returns-in-LookedAt-clause-turn
returns-in-LookedAt-clause-turn g c = λ hosts all. rw c.in-LookedAt.is (search rules)

pub returns-in-LookedAt-clause-some : goal.returns-in-LookedAt-clause-some
returns-in-LookedAt-clause-some g c = rw c.in-LookedAt.is (search rules)

pub returns-in-LookedAt-clause-after : goal.returns-in-LookedAt-clause-after
returns-in-LookedAt-clause-after g c = rw c.in-LookedAt.is (search rules)
