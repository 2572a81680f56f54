use Rattle.std.proofs.Common.{◌≡◌, length, map}
use Rattle.tpl_syntax.specs.Refusals.{first_misplaced}
use Rattle.tpl_syntax.specs.Views.{judged_read}
use Rattle.tpl_syntax.proofs.judge.first_misplaced.Given as goal

abbrev pub invariant-loop-line : goal.invariant-loop-line
invariant-loop-line l = first_misplaced (map judged_read l.rest) ≡ first_misplaced (map judged_read l.lines)

abbrev pub decreases-loop-line : goal.decreases-loop-line
decreases-loop-line l = length l.rest
