use Rattle.std.proofs.Common.{sym, ap, ◌∙◌, arith}
use Rattle.signal_model.specs.Signals.{is_there, standing}
use Rattle.sig_graph.specs.States.{Seen}
use Rattle.sig_seats.specs.Seats.{holder}
use Rattle.sig_nodes.specs.Nodes.{seat_at}
use Rattle.sig_graph.proofs.Consistency.{live_here}
use Rattle.sig_seats.proofs.Shared.{held_inside}
use Rattle.sig_graph.proofs.graph.Graph.seat.Goals as goal

pub returns-clause-own : goal.returns-clause-own
returns-clause-own c =
    let live = sym (live_here c.self.inside.nodes.items c.args.id) ∙ ap (λ (s : Seen). is_there (standing s.state.signals c.args.id)) c.self.view_is ∙ c.requires in
    sym (ap (λ (s : Seen). holder s.seats c.seat_at.result) c.self.view_is)
    ∙ ap (holder c.self.inside.seats.holders) c.seat_at.ensures
    ∙ c.self.invariant.fields.seated c.args.id live

pub returns-clause-below : goal.returns-clause-below
returns-clause-below c =
    let live = sym (live_here c.self.inside.nodes.items c.args.id) ∙ ap (λ (s : Seen). is_there (standing s.state.signals c.args.id)) c.self.view_is ∙ c.requires in
    let held = c.self.invariant.fields.seated c.args.id live in
    let inside = held_inside c.self.inside.seats.holders (seat_at c.self.inside.nodes.items c.args.id) c.args.id held in
    let at = c.seat_at.ensures in
    let size = c.self.invariant.fields.size in
    omega (arith, inside, at, size)

pub returns-clause-only : goal.returns-clause-only
returns-clause-only c = λ s held.
    let at = c.seat_at.ensures in
    sym ((c.self.invariant.fields.living s c.args.id (ap (λ (g : Seen). holder g.seats s) c.self.view_is ∙ held)).1) ∙ sym at
