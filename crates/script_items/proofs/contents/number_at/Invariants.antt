use Rattle.std.proofs.Common.{◌≡◌, drop, map}
use Rattle.script_lines.specs.Views.{line_of}
use Rattle.script_items.specs.Views.{number_in}
use Rattle.script_items.proofs.contents.number_at.Given as goal

-- the number among the lines that are left is the one among all
abbrev pub invariant-loop-line : goal.invariant-loop-line
invariant-loop-line l = number_in (map line_of (drop l.line-index l.lines)) l.at ≡ number_in (map line_of l.lines) l.at
