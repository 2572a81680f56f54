use Rattle.std.proofs.Common.{ap, inl, sym, ◌∙◌}
use Rattle.sig_graph.specs.Looks.{is_clean_mark}
use Rattle.sig_graph.proofs.Searches.{due_got, due_unclean, unmarked_clean}
use Rattle.sig_graph.proofs.search.node_told.Goals as goal

pub returns-then-is_found-clause-clean : goal.returns-then-is_found-clause-clean
returns-then-is_found-clause-clean c =
    let xs = c.args.nodes.now.items in
    due_unclean xs c.args.generation c.args.id c.requires.can.live
    (c.requires.can.kept.due c.args.id c.requires.can.live (c.is_found.ensures.found c.if-is_found.true))

pub returns-then-not-is_marked-clause-clean : goal.returns-then-not-is_marked-clause-clean
returns-then-not-is_marked-clause-clean c =
    ap is_clean_mark
    (unmarked_clean c.args.nodes.now.items c.args.generation c.args.marks.now c.args.id c.requires.can.marks c.requires.can.live (sym c.is_marked.ensures ∙ c.if-not-is_marked.true))

pub returns-then-is_node_due-clause-clean : goal.returns-then-is_node_due-clause-clean
returns-then-is_node_due-clause-clean c =
    due_unclean c.args.nodes.now.items c.args.generation c.args.id c.requires.can.live
    (inl (due_got c.args.nodes.now.items c.args.generation c.args.id c.args.node.now c.requires.node ∙ sym c.is_node_due.ensures ∙ c.if-is_node_due.true))

pub returns-clause-calm : goal.returns-clause-calm
returns-clause-calm c =
    due_got c.args.nodes.now.items c.args.generation c.args.id c.args.node.now c.requires.node ∙ sym c.is_node_due.ensures ∙ c.if-is_node_due.false
