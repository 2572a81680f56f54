use Rattle.std.specs.List.{All}
use Rattle.std.specs.Prelude.{slice_set, true, false}
use Rattle.sig_marks.specs.Tables.{Drops}
use Rattle.sig_graph.proofs.KeptFinds.{raised_kept}
use Rattle.sig_graph.proofs.KeptMarks.{gone_kept, kept_names, names_below, same_table}
use Rattle.std.proofs.Common.{ℕ, Bool, ◌+◌, ◌<◌, List, length, refl, sym, ap, ◌∙◌, subst}
use Rattle.signal_model.specs.Signals.{is_there, standing}
use Rattle.sig_nodes.specs.declared.node.Node.{Node}
use Rattle.sig_nodes.specs.Answers.{host_here}
use Rattle.sig_graph.specs.States.{Seen, with_disposal}
use Rattle.sig_seats.specs.Seats.{Seating, holder}
use Rattle.sig_graph.specs.Places.{NodesAgree, KeepsMarks}
use Rattle.sig_nodes.specs.Nodes.{changed_at, gone_node, seat_at}
use Rattle.sig_graph.specs.Parts.{state_of}
use Rattle.sig_graph.proofs.Parts.{stands}
use Rattle.sig_nodes.proofs.Shared.{changed_length}
use Rattle.sig_graph.proofs.StateEdits.{gone_state}
use Rattle.sig_graph.proofs.Consistency.{became, gone_holds, live_below, live_here, seats_taken}
use Rattle.sig_seats.specs.Seats.{with_left}
use Rattle.std.proofs.Common.{true≢false}
use Rattle.sig_graph.proofs.graph.Graph.dispose_node.Goals as goal

pub returns-then-not-is_live_at-clause-gone : goal.returns-then-not-is_live_at-clause-gone
returns-then-not-is_live_at-clause-gone c =
    let off = ap (λ (s : Seen). is_there (standing s.state.signals c.args.id)) (sym c.self.view_is) ∙ live_here c.self.inside.nodes.items c.args.id
    ∙ sym c.is_live_at.ensures ∙ c.if-not-is_live_at.true in
    (λ q. off, λ q. refl)

pub leave-requires-clause-taken : goal.leave-requires-clause-taken
leave-requires-clause-taken c =
    let live = sym c.is_live_at.ensures ∙ c.if-not-is_live_at.false in
    ap (holder c.self.inside.seats.holders) c.seat_at.ensures ∙ c.self.invariant.fields.seated c.args.id live

pub leave-requires-clause-room : goal.leave-requires-clause-room
leave-requires-clause-room c =
    let live = sym c.is_live_at.ensures ∙ c.if-not-is_live_at.false in
    seats_taken c.self.inside.nodes.items c.self.inside.seats c.self.inside.generation c.self.inside.worn c.args.id live c.self.invariant.fields

pub take_out-requires-2 : goal.take_out-requires-2
take_out-requires-2 c = sym c.is_live_at.ensures ∙ c.if-not-is_live_at.false

pub spread-requires : goal.spread-requires
spread-requires c =
    let live = sym c.is_live_at.ensures ∙ c.if-not-is_live_at.false in
    subst (λ z. c.args.id < z) (sym c.self.invariant.marks.flags) (live_below c.self.inside.nodes.items c.args.id live)

pub take_out-requires-clause-place : goal.take_out-requires-clause-place
take_out-requires-clause-place c =
    let live = sym c.is_live_at.ensures ∙ c.if-not-is_live_at.false in
    subst (λ z. c.args.id < z) (sym (c.spread.ensures.marks.len ∙ c.self.invariant.marks.flags)) (live_below c.self.inside.nodes.items c.args.id live)

pub take_out-requires-clause-sources : goal.take_out-requires-clause-sources
take_out-requires-clause-sources c =
    let xs = c.self.inside.nodes.items in
    let names = c.sources_at.ensures in
    let below = names_below xs c.self.inside.seats c.self.inside.generation c.self.inside.worn c.args.id c.self.inside.marks c.self.invariant.fields c.self.invariant.marks in
    subst (λ (ns : List ℕ). All (λ m. m < length c.spread.new.self.marked) ns) (sym names) (subst (λ z. All (λ m. m < z) (kept_names xs c.args.id)) (sym c.spread.ensures.marks.len) below)

pub invariant_of-self : goal.invariant_of-self
invariant_of-self c =
    let xs = c.self.inside.nodes.items in
    let g = c.self.inside.generation in
    let names = c.sources_at.ensures in
    let drops = subst (λ (ns : List ℕ). Drops c.self.inside.marks.dependants c.take_out.new.self.dependants ns c.args.id) names
    (subst (λ (dss : List (List ℕ)). Drops dss c.take_out.new.self.dependants c.sources_at.result.now c.args.id) c.spread.ensures.dependants c.take_out.ensures.after) in
    let live = sym c.is_live_at.ensures ∙ c.if-not-is_live_at.false in
    let seat = c.seat_at.ensures in
    let seats = c.leave.ensures ∙ ap (with_left c.self.inside.seats) seat in
    let h = gone_holds c.args.id c.self.inside.nodes.items c.self.inside.seats c.self.inside.generation c.self.inside.worn live c.self.invariant.fields in
    let marks = gone_kept c.args.id xs g c.self.inside.marks c.take_out.new.self.dependants c.spread.new.self.marked live c.spread.ensures.marks drops c.self.invariant.marks in
    record {
      fields = subst (λ (t : Seating). NodesAgree c.take_out-2.new.self.items t (g + 1) (c.self.inside.worn + 1)) (sym seats)
          (subst (λ (ys : List Node). NodesAgree ys (with_left c.self.inside.seats (seat_at xs c.args.id)) (g + 1) (c.self.inside.worn + 1)) (sym c.take_out-2.ensures) h);
      marks = subst (λ (ys : List Node). KeepsMarks ys (g + 1) c.take_out.new.self) (sym c.take_out-2.ensures)
          (same_table (changed_at gone_node c.args.id xs) (g + 1) c.take_out.new.self c.take_out.new.self.dependants (slice_set c.spread.new.self.marked c.args.id true) (slice_set c.self.inside.marks.stands c.args.id false) refl c.take_out.ensures.marks
          (c.take_out.ensures.stands ∙ ap (λ (ss : List Bool). slice_set ss c.args.id false) c.spread.ensures.stands) marks);
      found = raised_kept xs c.take_out-2.new.self.items g (g + 1) c.self.inside.worn c.self.inside.finds c.self.invariant.found;
    }

pub returns-clause-after : goal.returns-clause-after
returns-clause-after c =
    let xs = c.self.inside.nodes.items in
    let ys = c.take_out-2.new.self.items in
    let g = c.self.inside.generation in
    let l = c.self.inside.looked in
    let w = c.self.inside.worn in
    let len = ap length c.take_out-2.ensures ∙ changed_length gone_node c.args.id xs in
    became c.args.self.now (state_of xs g l w) (state_of ys (g + 1) l (w + 1)) (with_disposal c.args.self.now.state c.args.id) c.self.inside.seats.holders c.leave.new.self.holders (length xs) (length ys) c.self.view_is len
    (ap (λ zs. state_of zs (g + 1) l (w + 1)) c.take_out-2.ensures ∙ gone_state xs c.args.id g l w ∙ ap (λ (s : Seen). with_disposal s.state c.args.id) c.self.view_is)

pub returns-clause-host : goal.returns-clause-host
returns-clause-host c =
    c.host_at-host.ensures
    ∙ ap host_here (sym (stands c.self.inside.nodes.items c.args.id)) ∙ ap (λ (s : Seen). host_here (standing s.state.signals c.args.id)) c.self.view_is

pub returns-clause-gone : goal.returns-clause-gone
returns-clause-gone c =
    let live = sym c.is_live_at.ensures ∙ c.if-not-is_live_at.false in
    let there = ap (λ (s : Seen). is_there (standing s.state.signals c.args.id)) (sym c.self.view_is) ∙ live_here c.self.inside.nodes.items c.args.id ∙ live in
    (λ q. absurd (true≢false (sym q)), λ q. absurd (true≢false (sym there ∙ q)))
