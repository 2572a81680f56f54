use Rattle.std.proofs.Common.{◌≡◌, ◌++◌, drop}
use Rattle.tpl_patch.specs.Sets.{left_out}
use Rattle.tpl_patch.proofs.leaving.put_strays.Given as goal

-- those so far, and the numbers that are left
abbrev pub invariant-loop-number : goal.invariant-loop-number
invariant-loop-number l =
    left_out l.kept l.out.items ++ left_out l.kept (drop l.number-index l.numbers) ≡ left_out l.kept l.initial.out.items ++ left_out l.kept l.numbers
