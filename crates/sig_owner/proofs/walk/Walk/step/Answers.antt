use Rattle.std.proofs.Common.{subst}
use Rattle.sig_owner.specs.Tables.{rows_of}
use Rattle.sig_owner.specs.Walks.{ArePending}
use Rattle.sig_owner.proofs.Walks.{holder_told, left_rest, left_walk, left_work, pending_last}
use Rattle.sig_owner.proofs.walk.Walk.step.Goals as goal

pub leave-requires : goal.leave-requires
leave-requires c =
    (pending_last (rows_of c.args.holders.now.entries) c.pop.new.self.items c.in-Some.pending (subst (ArePending (rows_of c.args.holders.now.entries)) c.in-Some.ensures.items c.requires.walk.pending)).1.1

pub returns-then-self-eq0-clause-walk : goal.returns-then-self-eq0-clause-walk
returns-then-self-eq0-clause-walk c =
    let e = c.in_ok-leave.ensures in
    left_walk (rows_of c.args.holders.now.entries) c.args.self.now c.leave.new.self c.pop.new.self.items c.in-Some.pending c.requires.walk c.in-Some.ensures.items e.at e.left e.pending

pub returns-then-self-eq0-clause-goes : goal.returns-then-self-eq0-clause-goes
returns-then-self-eq0-clause-goes c =
    let e = c.in_ok-leave.ensures in
    holder_told (rows_of c.args.holders.now.entries) c.args.self.now.undoings.items c.leave.new.self.undoings.items c.args.self.now.ended.items c.leave.new.self.ended.items c.in-Some.pending.inner _ _ e.undoings e.ended
    (left_rest (rows_of c.args.holders.now.entries) c.args.self.now c.leave.new.self c.pop.new.self.items c.in-Some.pending c.if-self-eq0.true c.in-Some.ensures.items e.at e.left e.pending)

pub returns-then-self-eq0-clause-work : goal.returns-then-self-eq0-clause-work
returns-then-self-eq0-clause-work c =
    let e = c.in_ok-leave.ensures in
    (λ q. left_work (rows_of c.args.holders.now.entries) c.args.self.now c.leave.new.self c.pop.new.self.items c.in-Some.pending
    (left_rest (rows_of c.args.holders.now.entries) c.args.self.now c.leave.new.self c.pop.new.self.items c.in-Some.pending c.if-self-eq0.true c.in-Some.ensures.items e.at e.left e.pending) c.in-Some.ensures.items e.pending)
