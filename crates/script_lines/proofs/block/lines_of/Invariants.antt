use Rattle.std.proofs.Common.{◌≡◌, ◌<◌, ◌≤◌, ◌+◌, ◌-◌, ◌^◌, ◌++◌, length, map, drop}
use Rattle.script_lines.specs.Lines.{kept_lines}
use Rattle.script_lines.specs.Views.{line_of}
use Rattle.script_lines.proofs.block.lines_of.Given as goal

abbrev pub invariant-loop-line : goal.invariant-loop-line
invariant-loop-line l = record {
  within : l.at ≤ length l.block;
  count : l.number + (length l.block - l.at) < 2 ^ 32;
  lines : map line_of l.lines.items ++ kept_lines l.number (drop l.at l.block) ≡ kept_lines 0 l.block;
}

abbrev pub decreases-loop-line : goal.decreases-loop-line
decreases-loop-line l = length l.block - l.at
