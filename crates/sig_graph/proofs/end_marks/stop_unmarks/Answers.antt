use Rattle.std.proofs.Common.{sym, ap, ◌∙◌}
use Rattle.sig_nodes.specs.declared.node.Body.{Body}
use Rattle.sig_nodes.specs.Nodes.{memo_body}
use Rattle.sig_graph.specs.Search.{stop_unmarks_by}
use Rattle.sig_graph.proofs.end_marks.stop_unmarks.Goals as goal

pub returns : goal.returns
returns c = c.unmarks.ensures ∙ sym (ap (λ (b : Body). stop_unmarks_by c.args.nodes.now.items c.args.generation c.args.marks.now.marked (memo_body b)) c.in-Some.ensures.some)
