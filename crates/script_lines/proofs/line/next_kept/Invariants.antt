use Rattle.std.proofs.Common.{◌≡◌, ◌+◌, ◌≤◌, ◌-◌, length, drop}
use Rattle.script_lines.specs.Lines.{kept_lines}
use Rattle.script_lines.proofs.line.next_kept.Given as goal

abbrev pub invariant-loop-text : goal.invariant-loop-text
invariant-loop-text l = record {
  after : l.start ≤ l.at;
  within : l.at ≤ length l.script;
  count : l.line ≤ l.number + (l.at - l.start);
  rest : kept_lines l.line (drop l.at l.script) ≡ kept_lines l.number (drop l.start l.script);
}

abbrev pub decreases-loop-text : goal.decreases-loop-text
decreases-loop-text l = length l.script - l.at
