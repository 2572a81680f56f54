use Rattle.std.proofs.Common.{rules}
use Rattle.sig_computed.proofs.Asides.{learnt_nothing}
use Rattle.sig_computed.proofs.frames.take_nothing.Goals as goal

-- what the frame is doing is put into the goal first
pub returns-in-Looking : goal.returns-in-Looking
returns-in-Looking c = rw c.in-Looking.is (search rules)

pub returns-in-LookedAt : goal.returns-in-LookedAt
returns-in-LookedAt c = rw c.in-LookedAt.is (search rules)

pub returns-in_default : goal.returns-in_default
returns-in_default c = learnt_nothing c.args.doing c.forget.new.self c.forget.ensures.known c.forget.ensures.reads
