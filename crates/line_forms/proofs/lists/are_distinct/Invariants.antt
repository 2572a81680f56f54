use Rattle.std.proofs.Common.{◌≡◌, length}
use Rattle.line_forms.specs.Forms.{are_distinct}
use Rattle.line_forms.proofs.lists.are_distinct.Given as goal

abbrev pub invariant-loop-name : goal.invariant-loop-name
invariant-loop-name l = are_distinct l.rest ≡ are_distinct l.names

abbrev pub decreases-loop-name : goal.decreases-loop-name
decreases-loop-name l = length l.rest
