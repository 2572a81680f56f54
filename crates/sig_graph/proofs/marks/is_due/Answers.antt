use Rattle.std.proofs.Common.{◌&&◌, [], sym, ap, ◌∙◌}
use Rattle.signal_model.specs.Memos.{must_run_by}
use Rattle.sig_nodes.specs.declared.node.Body.{Body}
use Rattle.sig_nodes.specs.Nodes.{is_computed_body, memo_body}
use Rattle.sig_graph.specs.Parts.{memos_of}
use Rattle.sig_nodes.proofs.Shared.{body_got}
use Rattle.sig_graph.proofs.Searches.{due_computed, due_found}
use Rattle.sig_graph.proofs.marks.is_due.Goals as goal

pub returns-in-Some : goal.returns-in-Some
returns-in-Some c =
    let xs = c.args.nodes.now.items in
    let k = memos_of c.args.generation xs in
    c.is_node_due.ensures
    ∙ sym (due_found xs c.args.generation c.args.id ∙ ap (λ (b : Body). is_computed_body b && must_run_by k (memo_body b) []) (body_got xs c.args.id c.in-Some.node.now c.in-Some.ensures.some))

pub returns-in-None : goal.returns-in-None
returns-in-None c = sym (due_computed c.args.nodes.now.items c.args.generation c.args.id (ap is_computed_body c.in-None.ensures.gone))
