use Rattle.std.proofs.Common.{◌≡◌, ◌≤◌, ◌||◌, drop, length, map, take}
use Rattle.std.specs.Prelude.{vec_capacity, vec_len}
use Rattle.sig_nodes.specs.Nodes.{number_at}
use Rattle.sig_graph.specs.Search.{some_marked_at}
use Rattle.sig_graph.proofs.end_marks.look_over.Given as goal

abbrev pub invariant-loop-id : goal.invariant-loop-id
invariant-loop-id l = record {
  numbers : l.numbers.items ≡ map (number_at l.nodes.items) (take l.id-index l.ids);
  len : vec_len l.numbers ≡ l.id-index;
  room : length l.ids ≤ vec_capacity l.numbers;
  marked : (l.marked || some_marked_at l.nodes.items l.marks.marked (drop l.id-index l.ids)) ≡ some_marked_at l.nodes.items l.marks.marked l.ids;
}
