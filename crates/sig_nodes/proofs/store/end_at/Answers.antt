use Rattle.std.proofs.Common.{None, ap, ◌∙◌, sym}
use Rattle.sig_nodes.specs.Nodes.{body_at, is_computed_body, known_node}
use Rattle.sig_nodes.proofs.Edits.{body_got, written}
use Rattle.sig_nodes.proofs.Lives.{computed_live}
use Rattle.sig_nodes.proofs.store.end_at.Goals as goal

pub node_mut-requires : goal.node_mut-requires
node_mut-requires c = computed_live (body_at c.args.nodes.now.items c.args.id) c.requires

pub end-requires : goal.end-requires
end-requires c = ap is_computed_body (sym (body_got c.args.nodes.now.items c.args.id c.node_mut.result.now c.node_mut.ensures.value)) ∙ c.requires

pub returns : goal.returns
returns c = written c.args.nodes.now.items c.args.id c.node_mut.result.now c.end.new.node (known_node None) c.node_mut.ensures.value c.end.ensures
