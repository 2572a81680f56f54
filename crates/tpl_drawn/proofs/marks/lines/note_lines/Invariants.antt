use Rattle.std.proofs.Common.{◌≡◌, ◌+◌, ℕ, drop}
use Rattle.tpl_drawn.specs.Lines.{line_in, lined_from}
use Rattle.tpl_drawn.proofs.marks.lines.note_lines.Given as goal

-- the addresses that are left have the next numbers, and with them all are noted
abbrev pub invariant-loop-address : goal.invariant-loop-address
invariant-loop-address l = record {
  count : l.number ≡ l.from + l.address-index;
  onward : (k : ℕ) → lined_from (drop l.address-index l.addresses) l.number (line_in l.lines) k ≡ lined_from l.addresses l.from (line_in l.fn.lines) k;
}
