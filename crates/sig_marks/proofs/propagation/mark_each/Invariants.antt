use Rattle.std.proofs.Common.{◌≡◌, ◌≤◌, ◌<◌, ◌+◌, ◌++◌, drop, length, vec_len, vec_capacity}
use Rattle.std.specs.List.{All}
use Rattle.sig_marks.specs.Sets.{marks_of, newly_marked, stands_of, unmarked_count, with_marks}
use Rattle.sig_marks.proofs.propagation.mark_each.Given as goal

abbrev pub invariant-loop-reader : goal.invariant-loop-reader
invariant-loop-reader l = record {
  marked : with_marks (drop l.reader-index l.readers) (marks_of l.marked.entries) ≡ with_marks l.readers (marks_of l.fn.marked.entries);
  stands : stands_of l.marked.entries ≡ stands_of l.fn.marked.entries;
  fresh : l.fresh.items ++ newly_marked (drop l.reader-index l.readers) (marks_of l.marked.entries) ≡ l.fn.fresh.items ++ newly_marked l.readers (marks_of l.fn.marked.entries);
  within : All (λ d. d < length l.marked.entries) (drop l.reader-index l.readers);
  room : vec_len l.fresh + unmarked_count (marks_of l.marked.entries) ≤ vec_capacity l.fresh;
  capacity : vec_capacity l.fn.fresh ≤ vec_capacity l.fresh;
  work : length l.fresh.items + unmarked_count (marks_of l.marked.entries) ≡ length l.fn.fresh.items + unmarked_count (marks_of l.fn.marked.entries);
  fewer : unmarked_count (marks_of l.marked.entries) ≤ unmarked_count (marks_of l.fn.marked.entries);
}
