use Rattle.std.proofs.Common.{◌≡◌, ◌++◌, drop}
use Rattle.keyed_each.specs.Standing.{below}
use Rattle.keyed_each.proofs.numbers.staying.Given as goal

-- those so far, and those of the numbers that are left
abbrev pub invariant-loop-number : goal.invariant-loop-number
invariant-loop-number l = l.staying.items ++ below l.next (drop l.number-index l.numbers) ≡ below l.next l.numbers
