use Rattle.std.proofs.Common.{◌≡◌, drop}
use Rattle.sig_graph.specs.Search.{first_new}
use Rattle.sig_graph.proofs.search.next_below.Given as goal

abbrev pub invariant-loop-source : goal.invariant-loop-source
invariant-loop-source l = first_new l.nodes.items l.marks.marked l.reached (drop l.source-index l.source-items) ≡ first_new l.nodes.items l.marks.marked l.reached l.source-items
