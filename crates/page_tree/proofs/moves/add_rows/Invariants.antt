use Rattle.std.proofs.Common.{◌≡◌, ◌≤◌, ℕ, length, map}
use Rattle.indexmap.specs.IndexMap.{spare}
use Rattle.page_tree.specs.Rows.{look, numbered_row}
use Rattle.page_tree.specs.Subs.{after_rows}
use Rattle.page_tree.proofs.moves.add_rows.Given as goal

abbrev pub invariant-loop-id : goal.invariant-loop-id
invariant-loop-id l = record {
  room : length l.id-iterator.rest.items ≤ spare l.nodes;
  rows : (q : ℕ) → after_rows q (map numbered_row l.id-iterator.rest.items) (look l.nodes q) ≡ after_rows q (map numbered_row l.initial.id-iterator.rest.items) (look l.initial.nodes q);
}
