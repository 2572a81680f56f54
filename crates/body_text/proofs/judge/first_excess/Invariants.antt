use Rattle.std.proofs.Common.{◌≡◌, length, map}
use Rattle.body_text.specs.Refusals.{first_excess}
use Rattle.body_text.specs.Views.{judged_read}
use Rattle.body_text.proofs.judge.first_excess.Given as goal

abbrev pub invariant-loop-line : goal.invariant-loop-line
invariant-loop-line l = first_excess (map judged_read l.rest) ≡ first_excess (map judged_read l.lines)

abbrev pub decreases-loop-line : goal.decreases-loop-line
decreases-loop-line l = length l.rest
