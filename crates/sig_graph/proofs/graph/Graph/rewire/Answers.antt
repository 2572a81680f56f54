use Rattle.sig_graph.proofs.KeptFinds.{raised_kept}
use Rattle.sig_graph.proofs.KeptMarks.{rewired_kept, same_table}
use Rattle.std.proofs.Common.{◌+◌, ◌<◌, ◌∷◌, List, length, refl, sym, ap, ◌∙◌, subst}
use Rattle.signal_model.specs.Signals.{standing, is_cell}
use Rattle.sig_nodes.specs.declared.node.Node.{Node}
use Rattle.sig_nodes.specs.Answers.{expression_of, host_here}
use Rattle.sig_nodes.specs.Computations.{recipe_made}
use Rattle.sig_graph.specs.States.{Seen, with_rewiring, are_there}
use Rattle.sig_graph.specs.Places.{NodesAgree, KeepsMarks}
use Rattle.sig_nodes.specs.Nodes.{body_at, changed_at, is_live_body, rewired_node, are_live_bodies}
use Rattle.sig_graph.specs.Parts.{state_of}
use Rattle.sig_graph.proofs.Parts.{stands}
use Rattle.sig_nodes.proofs.Shared.{changed_length}
use Rattle.sig_graph.proofs.StateEdits.{rewired_state}
use Rattle.sig_graph.proofs.Consistency.{became, given_below, live_below, rewired_holds, all_here, and_left, computed_left}
use Rattle.std.proofs.Common.{true≢false}
use Rattle.sig_graph.proofs.graph.Graph.rewire.Goals as goal

pub returns-then-not-is_linkable_at-clause-gone : goal.returns-then-not-is_linkable_at-clause-gone
returns-then-not-is_linkable_at-clause-gone c =
    let all = ap (λ (s : Seen). are_there s.state.signals (c.args.id ∷ c.args.slots.items)) (sym c.self.view_is) ∙ all_here c.self.inside.nodes.items (c.args.id ∷ c.args.slots.items) ∙ sym (c.is_linkable_at.ensures ∙ ap (λ ns. are_live_bodies c.self.inside.nodes.items (c.args.id ∷ ns)) c.deref.ensures.value)
    ∙ c.if-not-is_linkable_at.true in
    (λ q. all, λ q. refl)

pub rewire_at-requires-clause-live : goal.rewire_at-requires-clause-live
rewire_at-requires-clause-live c =
    let all = sym (c.is_linkable_at.ensures ∙ ap (λ ns. are_live_bodies c.self.inside.nodes.items (c.args.id ∷ ns)) c.deref.ensures.value) ∙ c.if-not-is_linkable_at.false in
    let live = and_left (is_live_body (body_at c.self.inside.nodes.items c.args.id)) (are_live_bodies c.self.inside.nodes.items c.args.slots.items) all in
    computed_left c.self.inside.nodes.items c.args.id live (ap (λ (s : Seen). is_cell (standing s.state.signals c.args.id)) c.self.view_is ∙ c.requires.kind)

pub push-requires : goal.push-requires
push-requires c =
    let all = sym (c.is_linkable_at.ensures ∙ ap (λ ns. are_live_bodies c.self.inside.nodes.items (c.args.id ∷ ns)) c.deref.ensures.value) ∙ c.if-not-is_linkable_at.false in
    let alive = and_left (is_live_body (body_at c.self.inside.nodes.items c.args.id)) (are_live_bodies c.self.inside.nodes.items c.args.slots.items) all in
    subst (λ z. c.args.id < z) (sym c.self.invariant.marks.flags) (live_below c.self.inside.nodes.items c.args.id alive)

pub invariant_of-self : goal.invariant_of-self
invariant_of-self c =
    let xs = c.self.inside.nodes.items in
    let g = c.self.inside.generation in
    let recipe = recipe_made (expression_of c.args.recipe) c.args.slots.items in
    let all = sym (c.is_linkable_at.ensures ∙ ap (λ ns. are_live_bodies c.self.inside.nodes.items (c.args.id ∷ ns)) c.deref.ensures.value) ∙ c.if-not-is_linkable_at.false in
    let alive = and_left (is_live_body (body_at c.self.inside.nodes.items c.args.id)) (are_live_bodies c.self.inside.nodes.items c.args.slots.items) all in
    let live = computed_left xs c.args.id alive (ap (λ (s : Seen). is_cell (standing s.state.signals c.args.id)) c.self.view_is ∙ c.requires.kind) in
    let marks = rewired_kept recipe c.args.id xs g c.self.inside.marks c.push.new.self.marked live c.push.ensures.marks c.self.invariant.marks in
    let below = given_below c.args.self.now (state_of xs c.self.inside.generation c.self.inside.looked c.self.inside.worn) c.self.inside.seats.holders (length xs) c.args.slots.items c.self.view_is c.requires.given in
    record {
      fields = subst (λ (ys : List Node). NodesAgree ys c.self.inside.seats (g + 1) (c.self.inside.worn + 1)) (sym c.rewire_at.ensures)
          (rewired_holds recipe c.args.id xs c.self.inside.seats g c.self.inside.worn below c.requires.few c.self.invariant.fields);
      marks = subst (λ (ys : List Node). KeepsMarks ys (g + 1) c.push.new.self) (sym c.rewire_at.ensures)
          (same_table (changed_at (rewired_node recipe) c.args.id xs) (g + 1) c.push.new.self c.self.inside.marks.dependants c.push.new.self.marked c.self.inside.marks.stands c.push.ensures.dependants refl c.push.ensures.stands marks);
      found = raised_kept xs c.rewire_at.new.nodes.items g (g + 1) c.self.inside.worn c.self.inside.finds c.self.invariant.found;
    }

pub returns-clause-after : goal.returns-clause-after
returns-clause-after c =
    let xs = c.self.inside.nodes.items in
    let ys = c.rewire_at.new.nodes.items in
    let g = c.self.inside.generation in
    let l = c.self.inside.looked in
    let w = c.self.inside.worn in
    let len = ap length c.rewire_at.ensures ∙ changed_length (rewired_node (recipe_made (expression_of c.args.recipe) c.args.slots.items)) c.args.id xs in
    became c.args.self.now (state_of xs g l w) (state_of ys (g + 1) l (w + 1)) (with_rewiring c.args.self.now.state c.args.id (recipe_made (expression_of c.args.recipe) c.args.slots.items)) c.self.inside.seats.holders c.self.inside.seats.holders (length xs) (length ys) c.self.view_is len
    (ap (λ zs. state_of zs (g + 1) l (w + 1)) c.rewire_at.ensures ∙ rewired_state xs c.args.id (recipe_made (expression_of c.args.recipe) c.args.slots.items) g l w ∙ ap (λ (s : Seen). with_rewiring s.state c.args.id (recipe_made (expression_of c.args.recipe) c.args.slots.items)) c.self.view_is)

pub returns-clause-host : goal.returns-clause-host
returns-clause-host c =
    c.host_at-host.ensures
    ∙ ap host_here (sym (stands c.self.inside.nodes.items c.args.id)) ∙ ap (λ (s : Seen). host_here (standing s.state.signals c.args.id)) c.self.view_is

pub returns-clause-gone : goal.returns-clause-gone
returns-clause-gone c =
    let all = sym (c.is_linkable_at.ensures ∙ ap (λ ns. are_live_bodies c.self.inside.nodes.items (c.args.id ∷ ns)) c.deref.ensures.value) ∙ c.if-not-is_linkable_at.false in
    let there = ap (λ (s : Seen). are_there s.state.signals (c.args.id ∷ c.args.slots.items)) (sym c.self.view_is) ∙ all_here c.self.inside.nodes.items (c.args.id ∷ c.args.slots.items) ∙ all in
    (λ q. absurd (true≢false (sym q)), λ q. absurd (true≢false (sym there ∙ q)))
