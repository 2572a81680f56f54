use Rattle.sig_graph.proofs.KeptFinds.{known_found}
use Rattle.sig_graph.proofs.KeptMarks.{begun_kept, same_table}
use Rattle.std.proofs.Common.{refl, ◌<◌, [], List, Some, length, sym, ap, ◌∙◌, subst}
use Rattle.signal_model.specs.Signals.{is_computed, standing}
use Rattle.sig_nodes.specs.declared.node.Node.{Node}
use Rattle.sig_graph.specs.States.{progress_at, Seen, with_progress}
use Rattle.sig_graph.specs.Places.{NodesAgree, KeepsFound, KeepsMarks}
use Rattle.sig_nodes.specs.Nodes.{changed_at, known_node}
use Rattle.sig_graph.specs.Parts.{progress_of, state_of}
use Rattle.sig_nodes.proofs.Shared.{changed_length}
use Rattle.sig_graph.proofs.StateEdits.{known_state}
use Rattle.sig_graph.proofs.Consistency.{became, computed_below, computed_here, known_holds}
use Rattle.signal_model.specs.Memos.{is_stale, is_stale_by}
use Rattle.sig_nodes.specs.Computations.{at_generation}
use Rattle.sig_graph.proofs.Parts.{memo_found}
use Rattle.sig_graph.proofs.Lookups.{begun_here}
use Rattle.sig_graph.proofs.graph.Graph.begun_stale.Goals as goal

pub begin_at-requires : goal.begin_at-requires
begin_at-requires c = computed_here c.self.inside.nodes.items c.args.id (ap (λ (s : Seen). is_computed (standing s.state.signals c.args.id)) c.self.view_is ∙ c.requires.live)

pub push-requires : goal.push-requires
push-requires c =
    let live = computed_here c.self.inside.nodes.items c.args.id (ap (λ (s : Seen). is_computed (standing s.state.signals c.args.id)) c.self.view_is ∙ c.requires.live) in
    subst (λ z. c.args.id < z) (sym c.self.invariant.marks.flags) (computed_below c.self.inside.nodes.items c.args.id live)

pub invariant_of-self : goal.invariant_of-self
invariant_of-self c =
    let xs = c.self.inside.nodes.items in
    let g = c.self.inside.generation in
    let live = computed_here c.self.inside.nodes.items c.args.id (ap (λ (s : Seen). is_computed (standing s.state.signals c.args.id)) c.self.view_is ∙ c.requires.live) in
    let marks = begun_kept c.args.id xs g c.self.inside.marks c.push.new.self.marked live c.push.ensures.marks c.self.invariant.marks in
    record {
      fields = subst (λ (ys : List Node). NodesAgree ys c.self.inside.seats g c.self.inside.worn) (sym c.begin_at.ensures.nodes)
          (known_holds (Some []) c.args.id xs c.self.inside.seats g c.self.inside.worn c.self.invariant.fields);
      marks = subst (λ (ys : List Node). KeepsMarks ys g c.push.new.self) (sym c.begin_at.ensures.nodes)
          (same_table (changed_at (known_node (Some [])) c.args.id xs) g c.push.new.self c.self.inside.marks.dependants c.push.new.self.marked c.self.inside.marks.stands c.push.ensures.dependants refl c.push.ensures.stands marks);
      found = subst (λ (ys : List Node). KeepsFound ys g c.self.inside.worn c.self.inside.finds) (sym c.begin_at.ensures.nodes)
          (known_found (Some []) c.args.id xs g c.self.inside.worn c.self.inside.finds c.self.invariant.found);
    }

pub returns-clause-after : goal.returns-clause-after
returns-clause-after c =
    let xs = c.self.inside.nodes.items in
    let ys = c.begin_at.new.nodes.items in
    let g = c.self.inside.generation in
    let l = c.self.inside.looked in
    let w = c.self.inside.worn in
    let len = ap length c.begin_at.ensures.nodes ∙ changed_length (known_node (Some [])) c.args.id xs in
    became c.args.self.now (state_of xs g l w) (state_of ys g l w) (with_progress c.args.self.now.state c.args.id (Some [])) c.self.inside.seats.holders c.self.inside.seats.holders (length xs) (length ys) c.self.view_is len
    (ap (λ zs. state_of zs g l w) c.begin_at.ensures.nodes ∙ known_state xs c.args.id (Some []) g l w ∙ ap (λ (s : Seen). with_progress s.state c.args.id (Some [])) c.self.view_is)

pub returns-clause-stale : goal.returns-clause-stale
returns-clause-stale c =
    c.begin_at.ensures.stale
    ∙ ap (is_stale_by (at_generation c.self.inside.generation)) (sym (memo_found c.self.inside.nodes.items c.self.inside.generation c.args.id)) ∙ ap (λ (s : Seen). is_stale s.state.memos c.args.id) c.self.view_is

pub returns-clause-begun : goal.returns-clause-begun
returns-clause-begun c =
    let live = computed_here c.self.inside.nodes.items c.args.id (ap (λ (s : Seen). is_computed (standing s.state.signals c.args.id)) c.self.view_is ∙ c.requires.live) in
    ap (λ (xs : List Node). progress_at c.args.id (progress_of xs)) c.begin_at.ensures.nodes ∙ begun_here (Some []) c.args.id c.self.inside.nodes.items live

pub returns-clause-seats : goal.returns-clause-seats
returns-clause-seats c = ap (λ (s : Seen). s.seats) c.self.view_is
