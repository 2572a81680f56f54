use Rattle.std.proofs.Common.{◌≡◌, ◌≤◌, take}
use Rattle.std.specs.List.{count_by}
use Rattle.live_report.specs.Counts.{is_op, is_run}
use Rattle.live_report.proofs.counters.told_in.Given as goal

-- the runs and the operations among the entries so far
abbrev pub invariant-loop-entry : goal.invariant-loop-entry
invariant-loop-entry l = record {
  runs : l.runs ≡ count_by is_run (take l.entry-index l.entries);
  ops : l.ops ≡ count_by is_op (take l.entry-index l.entries);
  few_runs : l.runs ≤ l.entry-index;
  few_ops : l.ops ≤ l.entry-index;
}
