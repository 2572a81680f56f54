use Rattle.std.proofs.Common.{◌-◌, ◌≤◌, length}
use Rattle.keyed_each.specs.Queue.{first_waiting}
use Rattle.keyed_each.proofs.places.next_waiting.Given as goal

abbrev pub invariant-loop-at : goal.invariant-loop-at
invariant-loop-at l = l.at ≤ first_waiting l.waiting

abbrev pub decreases-loop-at : goal.decreases-loop-at
decreases-loop-at l = length l.waiting - l.at
