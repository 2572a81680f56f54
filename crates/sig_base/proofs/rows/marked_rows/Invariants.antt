use Rattle.std.proofs.Common.{◌≡◌, ◌++◌, drop}
use Rattle.sig_base.specs.Tables.{marked}
use Rattle.sig_base.proofs.rows.marked_rows.Given as goal

abbrev pub invariant-loop-at : goal.invariant-loop-at
invariant-loop-at l = l.kept.items ++ marked (drop l.at l.marks) (drop l.at l.rows) ≡ marked l.marks l.rows
