use Rattle.std.proofs.Common.{subst}
use Rattle.sig_computed.specs.Lessons.{Lesson, good_seen}
use Rattle.sig_computed.specs.Reading.{IsToldWhere}
use Rattle.sig_computed.proofs.Asides.{learnt_told}
use Rattle.sig_computed.proofs.frames.Learnt.read_slot.Goals as goal

pub returns : goal.returns
returns c =
    let e = c.in_ok-read.ensures in
    let ks = c.read_slot.new.known.items in
    let ns = c.read_slot.new.reads.items in
    subst (λ (l : Lesson). IsToldWhere c.in_ok-read.read c.args.graph.now c.args.id c.args.slot l (record { known = ks; reads = good_seen ns ks })) c.self.view_is
    (learnt_told c.in_ok-read.read c.args.graph.now c.args.id c.args.slot c.self.inside.known.items c.self.inside.reads.items ks ns c.self.invariant e.read e.given)
