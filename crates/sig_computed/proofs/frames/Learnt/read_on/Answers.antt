use Rattle.std.proofs.Common.{subst}
use Rattle.signal_model.specs.Signals.{standing}
use Rattle.sig_computed.specs.Lessons.{Lesson, good_seen}
use Rattle.sig_computed.specs.Reading.{HasGoneOn, is_ended, reached_phase}
use Rattle.sig_computed.specs.Steps.{Running}
use Rattle.sig_computed.proofs.Asides.{learnt_on, reached_end}
use Rattle.sig_computed.proofs.frames.Learnt.read_on.Goals as goal

pub returns-clause-on : goal.returns-clause-on
returns-clause-on c =
    let e = c.in_ok-reached.ensures in
    let ks = c.read_on.new.known.items in
    let ns = c.read_on.new.reads.items in
    let r = c.in_ok-reached.reached in
    subst (λ (l : Lesson). HasGoneOn c.args.graph.now c.read_on.new.self c.args.id (Running l.known l.reads)
    (reached_phase r (record { known = ks; reads = good_seen ns ks })) (is_ended r))
    c.self.view_is
    (learnt_on c.args.graph.now c.read_on.new.self c.args.id c.self.inside.known.items c.self.inside.reads.items ks ns r c.read_on.new.outcome c.self.invariant
    e.read e.reached e.given e.after e.seats e.steps)

pub returns-clause-ended : goal.returns-clause-ended
returns-clause-ended c =
    reached_end c.in_ok-reached.reached (standing c.args.graph.now.state.signals c.args.id) c.read_on.new.known.items c.read_on.new.outcome
    c.in_ok-reached.ensures.reached
