use Rattle.std.proofs.Common.{Some, [], ap, ◌∙◌, sym}
use Rattle.signal_model.specs.Memos.{is_stale_by}
use Rattle.sig_nodes.specs.declared.node.Body.{Body}
use Rattle.sig_nodes.specs.Computations.{at_generation}
use Rattle.sig_nodes.specs.Nodes.{body_at, is_computed_body, known_node, memo_body}
use Rattle.sig_nodes.proofs.Edits.{body_got, written}
use Rattle.sig_nodes.proofs.Lives.{computed_live}
use Rattle.sig_nodes.proofs.store.begin_at.Goals as goal

pub node_mut-requires : goal.node_mut-requires
node_mut-requires c = computed_live (body_at c.args.nodes.now.items c.args.id) c.requires

pub begin-requires : goal.begin-requires
begin-requires c = ap is_computed_body (sym (body_got c.args.nodes.now.items c.args.id c.node_mut.result.now c.node_mut.ensures.value)) ∙ c.requires

pub returns-clause-nodes : goal.returns-clause-nodes
returns-clause-nodes c = written c.args.nodes.now.items c.args.id c.node_mut.result.now c.begin.new.node (known_node (Some [])) c.node_mut.ensures.value c.begin.ensures.node

pub returns-clause-stale : goal.returns-clause-stale
returns-clause-stale c =
    c.begin.ensures.stale
    ∙ ap (λ (b : Body). is_stale_by (at_generation c.args.generation) (memo_body b)) (sym (body_got c.args.nodes.now.items c.args.id c.node_mut.result.now c.node_mut.ensures.value))
