use Rattle.std.proofs.Common.{◌≡◌, ◌-◌, ◌≤◌}
use Rattle.why_model.specs.Facts.{last_number}
use Rattle.live_why.specs.Views.{past}
use Rattle.why_check.specs.Looking.{hits}
use Rattle.why_check.proofs.looking.last_hit.Given as goal

abbrev pub invariant-loop-at : goal.invariant-loop-at
invariant-loop-at l = record {
  inside : l.at ≤ l.before;
  same : last_number (hits l.wanted l.id) (past l.facts l.at) ≡ last_number (hits l.wanted l.id) (past l.facts l.before);
}

abbrev pub decreases-loop-at : goal.decreases-loop-at
decreases-loop-at l = l.at - l.since
