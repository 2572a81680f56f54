use Rattle.std.proofs.Common.{◌≡◌, ℕ, drop}
use Rattle.tpl_drawn.specs.Lines.{line_in, lined}
use Rattle.tpl_drawn.proofs.marks.lines.note_under.Given as goal

-- the addresses that are left have the numbers that are left, and with them all are noted
abbrev pub invariant-loop-address : goal.invariant-loop-address
invariant-loop-address l = record {
  count : l.at ≡ l.address-index;
  onward : (k : ℕ) → lined (drop l.address-index l.addresses) (drop l.at l.numbers) (line_in l.lines) k ≡ lined l.addresses l.numbers (line_in l.fn.lines) k;
}
