use Rattle.std.proofs.Common.{take}
use Rattle.std.specs.List.{AllByRecursion}
use Rattle.tpl_hearing.specs.Heard.{HasRows}
use Rattle.tpl_hearing.proofs.outcomes.find_all.Given as goal

-- those so far
abbrev pub invariant-loop-outcome : goal.invariant-loop-outcome
invariant-loop-outcome l = AllByRecursion HasRows (take l.outcome-index l.outcomes)
