use Rattle.std.proofs.Common.{◌≡◌, ◌++◌, drop}
use Rattle.tpl_patch.specs.Sets.{left_out}
use Rattle.tpl_patch.proofs.leaving.few_left_out.Given as goal

-- those so far, and the numbers that are left
abbrev pub invariant-loop-number : goal.invariant-loop-number
invariant-loop-number l = l.left.items ++ left_out l.kept (drop l.number-index l.numbers) ≡ left_out l.kept l.numbers
