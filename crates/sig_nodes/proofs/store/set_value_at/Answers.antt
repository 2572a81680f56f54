use Rattle.std.proofs.Common.{sym, ap, ◌∙◌, arith}
use Rattle.sig_nodes.specs.Nodes.{body_at, is_cell_body, set_node, value_body}
use Rattle.sig_nodes.proofs.Edits.{body_got, change_got, written}
use Rattle.sig_nodes.proofs.Lives.{cell_live}
use Rattle.sig_nodes.proofs.store.set_value_at.Goals as goal

pub node_mut-requires : goal.node_mut-requires
node_mut-requires c = cell_live (body_at c.args.nodes.now.items c.args.id) c.requires.live

pub set_value-requires-clause-live : goal.set_value-requires-clause-live
set_value-requires-clause-live c = ap is_cell_body (sym (body_got c.args.nodes.now.items c.args.id c.node_mut.result.now c.node_mut.ensures.value)) ∙ c.requires.live

pub set_value-requires-clause-worn : goal.set_value-requires-clause-worn
set_value-requires-clause-worn c = let e = change_got c.args.nodes.now.items c.args.id c.node_mut.result.now c.node_mut.ensures.value in let w = c.requires.worn in omega (arith, e, w)

pub returns-clause-nodes : goal.returns-clause-nodes
returns-clause-nodes c = written c.args.nodes.now.items c.args.id c.node_mut.result.now c.set_value.new.node (set_node c.args.value) c.node_mut.ensures.value c.set_value.ensures.node

pub returns-clause-before : goal.returns-clause-before
returns-clause-before c = ap value_body (body_got c.args.nodes.now.items c.args.id c.node_mut.result.now c.node_mut.ensures.value) ∙ c.set_value.ensures.before
