use Rattle.std.proofs.Common.{◌≡◌, drop}
use Rattle.keyed_each.specs.Standing.{stand_among}
use Rattle.keyed_each.proofs.numbers.stand_among.Given as goal

-- what waits stands among the others that are left
abbrev pub invariant-loop-other : goal.invariant-loop-other
invariant-loop-other l = stand_among l.next l.waiting (drop l.other-index l.others) ≡ stand_among l.next l.numbers l.others
