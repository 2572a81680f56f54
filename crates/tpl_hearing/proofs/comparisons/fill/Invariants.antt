use Rattle.tpl_hearing.specs.Heard.{Outcomes}
use Rattle.tpl_hearing.specs.HeardAgain.{AllCompared, IsCompared}
use Rattle.tpl_hearing.proofs.comparisons.fill.Given as goal

-- what was noted so far is so
abbrev pub invariant-loop : goal.invariant-loop
invariant-loop l = (before heard : Outcomes) → AllCompared before heard l.fn.noted.items → IsCompared before heard l.id l.same → AllCompared before heard l.noted.items
