use Rattle.std.proofs.Common.{◌≡◌, ◌-◌, length}
use Rattle.std.specs.List.{zip}
use Rattle.tpl_hearing.specs.Standing.{StandBetween}
use Rattle.tpl_hearing.proofs.again.standing_up_to.Given as goal

-- the names so far show their outcomes as they stand
abbrev pub invariant-loop-place : goal.invariant-loop-place
invariant-loop-place l = record {
  same : l.graph ≡ l.fn.graph;
  stand : StandBetween l.fn.graph.state.signals l.fn.graph.state.memos (zip l.ids l.outcomes) l.from l.place;
}

-- the names that are left
abbrev pub decreases-loop-place : goal.decreases-loop-place
decreases-loop-place l = length l.outcomes - l.place
