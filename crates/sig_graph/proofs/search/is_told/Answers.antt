use Rattle.std.proofs.Common.{inl, sym, ◌∙◌}
use Rattle.sig_graph.proofs.Searches.{due_got}
use Rattle.sig_graph.proofs.search.is_told.Goals as goal

pub returns-then-is_found-clause-due : goal.returns-then-is_found-clause-due
returns-then-is_found-clause-due c = λ told. c.requires.kept.due c.args.id c.requires.live (c.is_found.ensures.found c.if-is_found.true)

pub returns-else-is_found-clause-due : goal.returns-else-is_found-clause-due
returns-else-is_found-clause-due c = λ told.
    inl (due_got c.args.nodes.now.items c.args.generation c.args.id c.args.node.now c.requires.node ∙ sym c.is_node_due.ensures ∙ told)

pub returns-else-is_found-clause-calm : goal.returns-else-is_found-clause-calm
returns-else-is_found-clause-calm c = λ calm.
    due_got c.args.nodes.now.items c.args.generation c.args.id c.args.node.now c.requires.node ∙ sym c.is_node_due.ensures ∙ calm
