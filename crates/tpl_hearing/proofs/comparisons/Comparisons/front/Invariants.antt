use Rattle.std.proofs.Common.{take}
use Rattle.tpl_hearing.specs.HeardAgain.{AllCompared}
use Rattle.tpl_hearing.proofs.comparisons.Comparisons.front.Given as goal

-- what was noted so far is so
abbrev pub invariant-loop-place : goal.invariant-loop-place
invariant-loop-place l = AllCompared l.before (take l.count l.before) l.noted.items
