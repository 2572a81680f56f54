use Rattle.std.proofs.Common.{◌≡◌, ℕ, ◌&&◌, Bool, true, List, Some, not, sym, ◌∙◌}
use Rattle.std.specs.Prelude.{slice_get}
use Rattle.sig_marks.specs.Tables.{marked_at}
use Rattle.signal_model.specs.Signals.{is_in}
use Rattle.sig_nodes.specs.Nodes.{is_computed_body}
use Rattle.sig_graph.specs.Search.{is_new}
use Rattle.sig_nodes.specs.declared.node.Node.{Node}
use Rattle.sig_nodes.proofs.Shared.{body_got, seat_got}
use Rattle.sig_graph.proofs.search.new_node.Goals as goal

-- of a marked one it is told by its node
told : (xs : List Node) (t : List Bool) (ss : List ℕ) (n : ℕ) (x : Node) → marked_at t n ≡ true → slice_get xs n ≡ Some x → (is_computed_body x.body && not (is_in x.seat ss)) ≡ is_new xs t ss n
told xs t ss n x on got = sym (λ i. on i && (is_computed_body (body_got xs n x got i) && not (is_in (seat_got xs n x got i) ss)))

pub returns-then-is_node_new-clause-new : goal.returns-then-is_node_new-clause-new
returns-then-is_node_new-clause-new c =
    sym c.if-is_node_new.true ∙ c.is_node_new.ensures
    ∙ told c.args.nodes.now.items c.args.marks.now.marked c.args.reached.now c.args.id c.in_ok-node.node.now (sym c.is_marked.ensures ∙ c.if-not-is_marked.false) c.in_ok-node.ensures.some

pub returns-else-is_node_new-clause-new : goal.returns-else-is_node_new-clause-new
returns-else-is_node_new-clause-new c =
    sym c.if-is_node_new.false ∙ c.is_node_new.ensures
    ∙ told c.args.nodes.now.items c.args.marks.now.marked c.args.reached.now c.args.id c.in_ok-node.node.now (sym c.is_marked.ensures ∙ c.if-not-is_marked.false) c.in_ok-node.ensures.some
