use Rattle.std.proofs.Common.{◌≡◌, ◌++◌}
use Rattle.live_labels.proofs.report.append.Given as goal

-- the entries so far
abbrev pub invariant-loop-entry : goal.invariant-loop-entry
invariant-loop-entry l = l.told.items ≡ l.fn.told.items ++ l.yielded
