use Rattle.sig_graph.proofs.FreshDue.{fresh_due}
use Rattle.sig_graph.proofs.KeptFinds.{raised_kept}
use Rattle.sig_graph.specs.Search.{HasDue}
use Rattle.sig_graph.proofs.KeptMarks.{same_table, set_kept}
use Rattle.std.proofs.Common.{◌≡◌, ℕ, true, refl, ◌+◌, ◌<◌, List, length, sym, ap, ◌∙◌, subst, arith}
use Rattle.signal_model.specs.Signals.{standing, is_cell, is_in}
use Rattle.sig_nodes.specs.declared.node.Node.{Node}
use Rattle.sig_nodes.specs.Answers.{value_here}
use Rattle.sig_graph.specs.States.{Seen, with_set}
use Rattle.sig_graph.specs.Places.{NodesAgree, KeepsMarks}
use Rattle.sig_nodes.specs.Nodes.{changed_at, set_node}
use Rattle.sig_graph.specs.Parts.{state_of}
use Rattle.sig_nodes.proofs.Shared.{changed_length}
use Rattle.sig_graph.proofs.StateEdits.{set_state}
use Rattle.sig_graph.proofs.Consistency.{became, cell_below, cell_here, set_holds}
use Rattle.sig_graph.proofs.graph.Graph.replace.Goals as goal
use Rattle.sig_graph.proofs.Lookups.{value_found}

pub set_value_at-before-requires-clause-live : goal.set_value_at-before-requires-clause-live
set_value_at-before-requires-clause-live c = cell_here c.self.inside.nodes.items c.args.id (ap (λ (s : Seen). is_cell (standing s.state.signals c.args.id)) c.self.view_is ∙ c.requires.live)

pub set_value_at-before-requires-clause-worn : goal.set_value_at-before-requires-clause-worn
set_value_at-before-requires-clause-worn c =
    let below = c.self.invariant.fields.numbers c.args.id in
    let wears = ap (λ (s : Seen). s.state.worn) c.self.view_is in
    let worn = c.requires.worn in
    omega (arith, below, wears, worn)

pub spread-requires : goal.spread-requires
spread-requires c =
    let live = cell_here c.self.inside.nodes.items c.args.id (ap (λ (s : Seen). is_cell (standing s.state.signals c.args.id)) c.self.view_is ∙ c.requires.live) in
    subst (λ z. c.args.id < z) (sym c.self.invariant.marks.flags) (cell_below c.self.inside.nodes.items c.args.id live)

pub invariant_of-self : goal.invariant_of-self
invariant_of-self c =
    let xs = c.self.inside.nodes.items in
    let g = c.self.inside.generation in
    let live = cell_here c.self.inside.nodes.items c.args.id (ap (λ (s : Seen). is_cell (standing s.state.signals c.args.id)) c.self.view_is ∙ c.requires.live) in
    let marks = set_kept c.args.value c.args.id xs g c.self.inside.marks c.spread.new.self.marked live c.spread.ensures.marks c.self.invariant.marks in
    record {
      fields = subst (λ (ys : List Node). NodesAgree ys c.self.inside.seats (g + 1) (c.self.inside.worn + 1)) (sym c.set_value_at-before.ensures.nodes)
          (set_holds c.args.value c.args.id xs c.self.inside.seats g c.self.inside.worn c.self.invariant.fields);
      marks = subst (λ (ys : List Node). KeepsMarks ys (g + 1) c.spread.new.self) (sym c.set_value_at-before.ensures.nodes)
          (same_table (changed_at (set_node c.args.value) c.args.id xs) (g + 1) c.spread.new.self c.self.inside.marks.dependants c.spread.new.self.marked c.self.inside.marks.stands c.spread.ensures.dependants refl c.spread.ensures.stands marks);
      found = c.note_fresh.ensures c.set_value_at-before.new.nodes.items (g + 1)
          (λ m listed. subst (λ (ys : List Node). HasDue ys (g + 1) m) (sym c.set_value_at-before.ensures.nodes)
          (fresh_due c.args.value c.args.id xs g c.self.inside.marks live c.self.invariant.marks m
          (c.spread.ensures.fresh m (subst (λ (fs : List ℕ). is_in m fs ≡ true) c.fresh.ensures listed))))
          (raised_kept xs c.set_value_at-before.new.nodes.items g (g + 1) c.self.inside.worn c.self.inside.finds c.self.invariant.found);
    }

pub returns-clause-after : goal.returns-clause-after
returns-clause-after c =
    let xs = c.self.inside.nodes.items in
    let ys = c.set_value_at-before.new.nodes.items in
    let g = c.self.inside.generation in
    let l = c.self.inside.looked in
    let w = c.self.inside.worn in
    let len = ap length c.set_value_at-before.ensures.nodes ∙ changed_length (set_node c.args.value) c.args.id xs in
    became c.args.self.now (state_of xs g l w) (state_of ys (g + 1) l (w + 1)) (with_set c.args.self.now.state c.args.id c.args.value) c.self.inside.seats.holders c.self.inside.seats.holders (length xs) (length ys) c.self.view_is len
    (ap (λ zs. state_of zs (g + 1) l (w + 1)) c.set_value_at-before.ensures.nodes ∙ set_state xs c.args.id c.args.value g l w ∙ ap (λ (s : Seen). with_set s.state c.args.id c.args.value) c.self.view_is)

pub returns-clause-before : goal.returns-clause-before
returns-clause-before c =
    sym (ap (λ (s : Seen). value_here (standing s.state.signals c.args.id)) c.self.view_is) ∙ value_found c.self.inside.nodes.items c.args.id ∙ c.set_value_at-before.ensures.before
