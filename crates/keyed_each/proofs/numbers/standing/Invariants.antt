use Rattle.std.proofs.Common.{◌≡◌, ◌++◌, drop}
use Rattle.keyed_each.specs.Standing.{stand_from}
use Rattle.keyed_each.proofs.numbers.standing.Given as goal

-- the steps so far, and those for the numbers that are left
abbrev pub invariant-loop-place : goal.invariant-loop-place
invariant-loop-place l = l.steps.items ++ stand_from l.next l.place (drop l.place l.numbers) ≡ stand_from l.next 0 l.numbers
