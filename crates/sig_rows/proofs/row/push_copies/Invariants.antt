use Rattle.std.proofs.Common.{◌≡◌, ◌≤◌, ◌+◌, ◌++◌, drop, length, vec_capacity, vec_len}
use Rattle.sig_rows.proofs.row.push_copies.Given as goal

-- the copies of so many are put, and there is room for the others
abbrev pub invariant-loop-row : goal.invariant-loop-row
invariant-loop-row l = record {
  put : l.out.items ++ drop l.row-index l.rows ≡ l.initial.out.items ++ l.rows;
  room : vec_len l.out + length l.rows ≤ vec_capacity l.out + l.row-index;
}
