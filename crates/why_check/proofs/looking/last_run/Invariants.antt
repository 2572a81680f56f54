use Rattle.std.proofs.Common.{◌≡◌, ◌≤◌}
use Rattle.why_model.specs.Facts.{last_run}
use Rattle.live_why.specs.Views.{past}
use Rattle.why_check.proofs.looking.last_run.Given as goal

abbrev pub invariant-loop-at : goal.invariant-loop-at
invariant-loop-at l = record {
  inside : l.at ≤ l.before;
  same : last_run l.id (past l.facts l.at) ≡ last_run l.id (past l.facts l.before);
}

abbrev pub decreases-loop-at : goal.decreases-loop-at
decreases-loop-at l = l.at
