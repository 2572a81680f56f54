use Rattle.std.proofs.Common.{◌≡◌, ◌+◌, ◌≤◌, length}
use Rattle.sig_graph.specs.Reading.{HasReadHere}
use Rattle.sig_graph.proofs.reading.read_anew.Given as goal

abbrev pub invariant-loop : goal.invariant-loop
invariant-loop l = record {
  read : HasReadHere l.nodes.items l.marks.marked l.computation.recipe l.fn.known.items l.fn.reads.items l.known.items l.reads.items;
  even : length l.known.items + length l.fn.reads.items ≡ length l.fn.known.items + length l.reads.items;
  steps : l.looked + length l.fn.known.items ≤ l.fn.looked + length l.known.items;
}
