use Rattle.std.proofs.Common.{◌≡◌, ◌++◌, drop}
use Rattle.sig_rows.proofs.row.scalars.Given as goal

abbrev pub invariant-loop-value : goal.invariant-loop-value
invariant-loop-value l = l.out.items ++ drop l.value-index l.values ≡ l.values
