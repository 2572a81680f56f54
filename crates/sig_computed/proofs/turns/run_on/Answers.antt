use Rattle.std.proofs.Common.{false, sym, ap, subst, true}
use Rattle.sig_graph.specs.declared.reading.Reached.{Reached}
use Rattle.sig_computed.specs.declared.frames.Doing.{Doing}
use Rattle.sig_computed.specs.Reading.{HasGoneOn, is_ended, reached_phase}
use Rattle.sig_computed.specs.Steps.{Running}
use Rattle.sig_computed.specs.Views.{phase_of}
use Rattle.sig_computed.proofs.turns.run_on.Goals as goal

-- it came to its end
pub returns-in-Ended-clause-on : goal.returns-in-Ended-clause-on
returns-in-Ended-clause-on c =
    let f = c.args.frame.now in
    let l = c.read_on.new.self in
    subst (λ (d : Doing). HasGoneOn c.args.graph.now c.read_on.new.graph f.id (Running f.learnt.known f.learnt.reads) (phase_of d l) true) (sym c.requires)
    (subst (λ (r : Reached). HasGoneOn c.args.graph.now c.read_on.new.graph f.id (Running f.learnt.known f.learnt.reads) (reached_phase r l) (is_ended r)) c.in-Ended.is
    c.in_ok-reached.ensures.on)

pub returns-in-Ended-clause-ended : goal.returns-in-Ended-clause-ended
returns-in-Ended-clause-ended c = λ e. record {
  runs = ap (λ (d : Doing). phase_of d c.read_on.new.self) c.requires;
  answer = c.in_ok-reached.ensures.ended (ap is_ended c.in-Ended.is);
}

-- it waits for a slot
pub returns-in-Needs-clause-on : goal.returns-in-Needs-clause-on
returns-in-Needs-clause-on c =
    let f = c.args.frame.now in
    let l = c.read_on.new.self in
    subst (λ (r : Reached). HasGoneOn c.args.graph.now c.read_on.new.graph f.id (Running f.learnt.known f.learnt.reads) (reached_phase r l) (is_ended r)) c.in-Needs.is
    c.in_ok-reached.ensures.on

-- nothing is told
pub returns-in-Left-clause-on : goal.returns-in-Left-clause-on
returns-in-Left-clause-on c =
    let f = c.args.frame.now in
    let l = c.read_on.new.self in
    subst (λ (d : Doing). HasGoneOn c.args.graph.now c.read_on.new.graph f.id (Running f.learnt.known f.learnt.reads) (phase_of d l) false) (sym c.requires)
    (subst (λ (r : Reached). HasGoneOn c.args.graph.now c.read_on.new.graph f.id (Running f.learnt.known f.learnt.reads) (reached_phase r l) (is_ended r)) c.in-Left.is
    c.in_ok-reached.ensures.on)
