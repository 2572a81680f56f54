use Rattle.std.proofs.Common.{◌≡◌, ◌+◌, ◌<◌, ◌≤◌, ◌-◌, ◌∷◌, [], length, drop, map}
use Rattle.script_lines.specs.Lines.{kept_lines}
use Rattle.script_lines.specs.Pieces.{pieces, inside}
use Rattle.script_lines.specs.Views.{line_of}
use Rattle.script_lines.proofs.piece.rest_of_block.Given as goal

abbrev pub invariant-loop-found : goal.invariant-loop-found
invariant-loop-found l = record {
  after : l.start ≤ l.at;
  within : l.at ≤ length l.script;
  count : l.line ≤ l.number + (l.at - l.start);
  some : 0 < l.level;
  few : l.level ≤ l.at - l.start + 1;
  rest : pieces (inside l.level (line_of l.first ∷ map line_of l.others.items)) (kept_lines l.line (drop l.at l.script))
      ≡ pieces (inside 1 (line_of l.first ∷ [])) (kept_lines l.number (drop l.start l.script));
}

abbrev pub decreases-loop-found : goal.decreases-loop-found
decreases-loop-found l = length l.script - l.at
