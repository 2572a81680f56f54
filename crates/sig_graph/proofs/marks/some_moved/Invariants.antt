use Rattle.std.proofs.Common.{◌≡◌, [], drop}
use Rattle.signal_model.specs.Memos.{some_moved, sources_in}
use Rattle.sig_graph.specs.Parts.{memos_of}
use Rattle.sig_graph.proofs.marks.some_moved.Given as goal

abbrev pub invariant-loop-place : goal.invariant-loop-place
invariant-loop-place l = some_moved (memos_of 0 l.nodes.items) [] (drop l.place (sources_in l.computation.memo)) ≡ some_moved (memos_of 0 l.nodes.items) [] (sources_in l.computation.memo)
