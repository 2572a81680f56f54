use Rattle.mark_laws.specs.Marked.{ended}
use Rattle.sig_marks.specs.Tables.{marked_at}
use Rattle.sig_graph.proofs.KeptFinds.{known_found}
use Rattle.sig_graph.proofs.KeptMarks.{same_table, stop_is, stopped_kept}
use Rattle.std.proofs.Common.{refl, ◌<◌, List, None, length, sym, ap, ◌∙◌, subst, is_some}
use Rattle.sig_nodes.specs.declared.node.Node.{Node}
use Rattle.sig_graph.specs.States.{Seen, is_computing, with_progress}
use Rattle.sig_graph.specs.Places.{NodesAgree, KeepsFound, KeepsMarks}
use Rattle.sig_nodes.specs.Nodes.{body_at, changed_at, known_node}
use Rattle.sig_graph.specs.Parts.{state_of}
use Rattle.sig_graph.proofs.Parts.{progress_found}
use Rattle.sig_nodes.proofs.Shared.{changed_length, computed_live}
use Rattle.sig_graph.proofs.StateEdits.{known_state}
use Rattle.sig_graph.proofs.Consistency.{became, computed_below, computing_here, known_holds}
use Rattle.sig_graph.proofs.graph.Graph.stop.Goals as goal

pub end_at-requires : goal.end_at-requires
end_at-requires c = computing_here (body_at c.self.inside.nodes.items c.args.id) (sym (ap is_some (progress_found c.self.inside.nodes.items c.args.id)) ∙ ap (λ (s : Seen). is_computing s.state c.args.id) c.self.view_is ∙ c.requires)

pub stop_unmarks-unmarks-requires : goal.stop_unmarks-unmarks-requires
stop_unmarks-unmarks-requires c =
    (computing_here (body_at c.self.inside.nodes.items c.args.id) (sym (ap is_some (progress_found c.self.inside.nodes.items c.args.id)) ∙ ap (λ (s : Seen). is_computing s.state c.args.id) c.self.view_is ∙ c.requires))

pub end_mark-requires-clause-stands : goal.end_mark-requires-clause-stands
end_mark-requires-clause-stands c =
    let live = computing_here (body_at c.self.inside.nodes.items c.args.id) (sym (ap is_some (progress_found c.self.inside.nodes.items c.args.id)) ∙ ap (λ (s : Seen). is_computing s.state c.args.id) c.self.view_is ∙ c.requires) in
    c.self.invariant.marks.standing.live c.args.id (computed_live (body_at c.self.inside.nodes.items c.args.id) live)

pub end_mark-requires-clause-place : goal.end_mark-requires-clause-place
end_mark-requires-clause-place c =
    let live = computing_here (body_at c.self.inside.nodes.items c.args.id) (sym (ap is_some (progress_found c.self.inside.nodes.items c.args.id)) ∙ ap (λ (s : Seen). is_computing s.state c.args.id) c.self.view_is ∙ c.requires) in
    subst (λ z. c.args.id < z) (sym c.self.invariant.marks.flags) (computed_below c.self.inside.nodes.items c.args.id live)

pub invariant_of-self : goal.invariant_of-self
invariant_of-self c =
    let xs = c.self.inside.nodes.items in
    let g = c.self.inside.generation in
    let t = c.self.inside.marks in
    let on = sym (ap is_some (progress_found c.self.inside.nodes.items c.args.id)) ∙ ap (λ (s : Seen). is_computing s.state c.args.id) c.self.view_is ∙ c.requires in
    let unmarks = c.stop_unmarks-unmarks.ensures ∙ stop_is xs g t.marked c.args.id in
    let marks = stopped_kept c.args.id xs g t c.end_mark.new.marks.marked on c.end_mark.ensures.size (λ m. c.end_mark.ensures.marks m ∙ ap (λ f. ended (marked_at t.marked) c.args.id f m) unmarks) c.self.invariant.marks in
    record {
      fields = subst (λ (ys : List Node). NodesAgree ys c.self.inside.seats g c.self.inside.worn) (sym c.end_at.ensures)
          (known_holds None c.args.id xs c.self.inside.seats g c.self.inside.worn c.self.invariant.fields);
      marks = subst (λ (ys : List Node). KeepsMarks ys g c.end_mark.new.marks) (sym c.end_at.ensures)
          (same_table (changed_at (known_node None) c.args.id xs) g c.end_mark.new.marks t.dependants c.end_mark.new.marks.marked t.stands c.end_mark.ensures.dependants refl c.end_mark.ensures.stands marks);
      found = subst (λ (ys : List Node). KeepsFound ys g c.self.inside.worn c.self.inside.finds) (sym c.end_at.ensures)
          (known_found None c.args.id xs g c.self.inside.worn c.self.inside.finds c.self.invariant.found);
    }

pub returns-clause-after : goal.returns-clause-after
returns-clause-after c =
    let xs = c.self.inside.nodes.items in
    let ys = c.end_at.new.nodes.items in
    let g = c.self.inside.generation in
    let l = c.self.inside.looked in
    let w = c.self.inside.worn in
    let len = ap length c.end_at.ensures ∙ changed_length (known_node None) c.args.id xs in
    became c.args.self.now (state_of xs g l w) (state_of ys g l w) (with_progress c.args.self.now.state c.args.id None) c.self.inside.seats.holders c.self.inside.seats.holders (length xs) (length ys) c.self.view_is len
    (ap (λ zs. state_of zs g l w) c.end_at.ensures ∙ known_state xs c.args.id None g l w ∙ ap (λ (s : Seen). with_progress s.state c.args.id None) c.self.view_is)

pub returns-clause-seats : goal.returns-clause-seats
returns-clause-seats c = ap (λ (s : Seen). s.seats) c.self.view_is
