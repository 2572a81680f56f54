use Rattle.std.proofs.Common.{◌≡◌, ◌≤◌, ◌+◌, ◌-◌, drop, length, vec_len, vec_capacity}
use Rattle.sig_marks.specs.Tables.{AreFresh, AreListed}
use Rattle.sig_marks.specs.Sets.{keys_of, marks_of, stands_of, unmarked_count}
use Rattle.sig_marks.proofs.PushedMarks.{Spreading}
use Rattle.sig_marks.proofs.propagation.spread.Given as goal

abbrev pub invariant-loop-place : goal.invariant-loop-place
invariant-loop-place l = record {
  pushing : Spreading (keys_of l.sets.entries) (marks_of l.fn.marked.entries) l.id (marks_of l.marked.entries) (drop l.place l.fresh.items);
  fresh : AreFresh (keys_of l.sets.entries) (marks_of l.fn.marked.entries) l.id l.fresh.items;
  listed : AreListed (marks_of l.fn.marked.entries) (marks_of l.marked.entries) l.fresh.items;
  stands : stands_of l.marked.entries ≡ stands_of l.fn.marked.entries;
  room : vec_len l.fresh + unmarked_count (marks_of l.marked.entries) ≤ vec_capacity l.fresh;
  capacity : vec_capacity l.fn.fresh ≤ vec_capacity l.fresh;
}

abbrev pub decreases-loop-place : goal.decreases-loop-place
decreases-loop-place l = (length l.fresh.items + unmarked_count (marks_of l.marked.entries)) - l.place
