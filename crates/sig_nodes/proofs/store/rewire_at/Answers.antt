use Rattle.std.proofs.Common.{ap, ◌∙◌, arith, sym}
use Rattle.sig_nodes.specs.Nodes.{body_at, is_computed_body, rewired_node}
use Rattle.sig_nodes.specs.Answers.{expression_of}
use Rattle.sig_nodes.specs.Computations.{recipe_made}
use Rattle.sig_nodes.proofs.Edits.{body_got, change_got, written}
use Rattle.sig_nodes.proofs.Lives.{computed_live}
use Rattle.sig_nodes.proofs.store.rewire_at.Goals as goal

pub node_mut-requires : goal.node_mut-requires
node_mut-requires c = computed_live (body_at c.args.nodes.now.items c.args.id) c.requires.live

pub rewire-requires-clause-live : goal.rewire-requires-clause-live
rewire-requires-clause-live c = ap is_computed_body (sym (body_got c.args.nodes.now.items c.args.id c.node_mut.result.now c.node_mut.ensures.value)) ∙ c.requires.live

pub rewire-requires-clause-worn : goal.rewire-requires-clause-worn
rewire-requires-clause-worn c = let e = change_got c.args.nodes.now.items c.args.id c.node_mut.result.now c.node_mut.ensures.value in let w = c.requires.worn in omega (arith, e, w)

pub returns : goal.returns
returns c = written c.args.nodes.now.items c.args.id c.node_mut.result.now c.rewire.new.node (rewired_node (recipe_made (expression_of c.args.recipe) c.args.slots.items)) c.node_mut.ensures.value c.rewire.ensures
