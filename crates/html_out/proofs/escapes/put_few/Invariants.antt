use Rattle.std.proofs.Common.{◌≡◌, ◌≤◌, ◌+◌, ◌-◌, ◌++◌, drop, length, vec_capacity, vec_len}
use Rattle.html_out.proofs.escapes.put_few.Given as goal

-- there is room for the bytes that are left
abbrev pub invariant-loop-byte : goal.invariant-loop-byte
invariant-loop-byte l =
    (vec_len l.out + (length l.bytes - l.byte-index) ≤ vec_capacity l.out) × (l.out.items ++ drop l.byte-index l.bytes ≡ l.fn.out.items ++ l.bytes)
