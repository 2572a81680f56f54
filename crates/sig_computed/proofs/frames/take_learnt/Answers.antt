use Rattle.std.proofs.Common.{rules, sym}
use Rattle.sig_computed.proofs.Asides.{learnt_nothing}
use Rattle.sig_computed.proofs.frames.take_learnt.Goals as goal

-- what the frame is doing is put into each goal first
pub returns-in-Looking-clause-phase : goal.returns-in-Looking-clause-phase
returns-in-Looking-clause-phase c = rw c.in-Looking.is (search rules)

pub returns-in-LookedAt-clause-phase : goal.returns-in-LookedAt-clause-phase
returns-in-LookedAt-clause-phase c = rw c.in-LookedAt.is (search rules)

pub returns-then-is_nothing-clause-phase : goal.returns-then-is_nothing-clause-phase
returns-then-is_nothing-clause-phase c =
    let f = c.args.frame.now in
    sym (learnt_nothing f.doing f.learnt (c.is_nothing.ensures.known c.if-is_nothing.true) (c.is_nothing.ensures.reads c.if-is_nothing.true))
