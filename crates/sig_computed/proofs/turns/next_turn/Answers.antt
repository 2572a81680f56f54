use Rattle.std.proofs.Common.{List, map, is_some, sym, ◌∙◌, subst}
use Rattle.signal_model.specs.Signals.{Stands, standing}
use Rattle.sig_host.specs.Hosts.{HostPlace}
use Rattle.sig_nodes.specs.Answers.{host_here}
use Rattle.sig_computed.specs.Asked.{CanAsk}
use Rattle.sig_computed.specs.Reading.{HasGoneOn}
use Rattle.sig_computed.specs.Views.{move_of, phase_of}
use Rattle.sig_computed.proofs.AfterReads.{ended_asked, ended_turn, fits_gone, gone_asked, gone_turn}
use Rattle.sig_computed.proofs.turns.next_turn.Goals as goal

pub turn_of-requires-clause-fits : goal.turn_of-requires-clause-fits
turn_of-requires-clause-fits g c =
    let f = c.args.frame.now in
    let h = c.read_on.new.frame in
    fits_gone c.args.graph.now c.read_on.new.graph f.id h.id (phase_of f.doing f.learnt) (phase_of h.doing h.learnt) c.in_ok-ended.ended
    c.requires.fits c.in_ok-ended.ensures.on c.in_ok-ended.ensures.id

pub turn_of-requires-clause-host : goal.turn_of-requires-clause-host
turn_of-requires-clause-host g c =
    let a = c.in_ok-ended.ensures.on.stays in
    let asked : List HostPlace = map (λ p. record { there = is_some p.host; asks = p.count }) c.args.shelf.now.places.items in
    subst (λ (st : Stands). CanAsk (host_here st) asked) (λ i. standing (sym a.signals i) (sym c.in_ok-ended.ensures.id i)) c.requires.host

-- the formula has come to its end
pub returns-then-ended-clause-turned : goal.returns-then-ended-clause-turned
returns-then-ended-clause-turned g c =
    let f = c.args.frame.now in
    let h = c.read_on.new.frame in
    ended_turn c.args.graph.now c.read_on.new.graph _ f.id (phase_of f.doing f.learnt) c.args.visited.now h c.requires.fits.given
    (subst (HasGoneOn c.args.graph.now c.read_on.new.graph f.id (phase_of f.doing f.learnt) (phase_of h.doing h.learnt)) c.if-ended.true c.in_ok-ended.ensures.on)
    (c.in_ok-ended.ensures.ended c.if-ended.true)

pub returns-then-ended-clause-asked : goal.returns-then-ended-clause-asked
returns-then-ended-clause-asked g c =
    let f = c.args.frame.now in
    ended_asked c.args.graph.now c.read_on.new.graph f.id (phase_of f.doing f.learnt) c.in_ok-ended.ended c.read_on.new.frame _
    c.in_ok-ended.ensures.on (c.in_ok-ended.ensures.ended c.if-ended.true)

-- it takes a step
pub returns-clause-turned : goal.returns-clause-turned
returns-clause-turned g c =
    let f = c.args.frame.now in
    let h = c.read_on.new.frame in
    gone_turn c.args.graph.now c.read_on.new.graph c.turn_of.new.graph _ f.id h.id (phase_of f.doing f.learnt) (phase_of h.doing h.learnt) c.args.visited.now
    (move_of c.in_ok-turn.turn c.turn_of.new.frame) c.requires.fits.given
    (subst (HasGoneOn c.args.graph.now c.read_on.new.graph f.id (phase_of f.doing f.learnt) (phase_of h.doing h.learnt)) c.if-ended.false c.in_ok-ended.ensures.on)
    c.in_ok-ended.ensures.id c.in_ok-turn.ensures.turn c.in_ok-turn.ensures.some c.in_ok-turn.ensures.given c.in_ok-turn.ensures.after

pub returns-clause-asked : goal.returns-clause-asked
returns-clause-asked g c =
    let f = c.args.frame.now in
    let h = c.read_on.new.frame in
    c.in_ok-turn.ensures.asked
    ∙ gone_asked c.args.graph.now c.read_on.new.graph f.id h.id (phase_of f.doing f.learnt) (phase_of h.doing h.learnt) c.in_ok-ended.ended _
    c.in_ok-ended.ensures.on c.in_ok-ended.ensures.id
