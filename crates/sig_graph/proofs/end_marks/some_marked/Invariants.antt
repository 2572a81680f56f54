use Rattle.std.proofs.Common.{◌≡◌, drop}
use Rattle.sig_graph.specs.Search.{some_marked_at}
use Rattle.sig_graph.proofs.end_marks.some_marked.Given as goal

abbrev pub invariant-loop-id : goal.invariant-loop-id
invariant-loop-id l = some_marked_at l.nodes.items l.marks.marked (drop l.id-index l.ids) ≡ some_marked_at l.nodes.items l.marks.marked l.ids
