use Rattle.std.proofs.Common.{ap, ◌∙◌, arith, sym}
use Rattle.sig_nodes.specs.Nodes.{body_at, is_computed_body, run_node}
use Rattle.sig_nodes.proofs.Edits.{body_got, change_got, written}
use Rattle.sig_nodes.proofs.Lives.{computed_live}
use Rattle.sig_nodes.proofs.store.keep_memo_at.Goals as goal

pub node_mut-requires : goal.node_mut-requires
node_mut-requires c = computed_live (body_at c.args.nodes.now.items c.args.id) c.requires.live

pub keep_memo-requires-clause-live : goal.keep_memo-requires-clause-live
keep_memo-requires-clause-live c = ap is_computed_body (sym (body_got c.args.nodes.now.items c.args.id c.node_mut.result.now c.node_mut.ensures.value)) ∙ c.requires.live

pub keep_memo-requires-clause-worn : goal.keep_memo-requires-clause-worn
keep_memo-requires-clause-worn c = let e = change_got c.args.nodes.now.items c.args.id c.node_mut.result.now c.node_mut.ensures.value in let w = c.requires.worn in omega (arith, e, w)

pub returns : goal.returns
returns c = written c.args.nodes.now.items c.args.id c.node_mut.result.now c.keep_memo.new.node (run_node c.args.memo) c.node_mut.ensures.value c.keep_memo.ensures
