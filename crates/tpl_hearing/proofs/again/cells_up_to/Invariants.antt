use Rattle.std.proofs.Common.{◌-◌, length}
use Rattle.std.specs.List.{zip}
use Rattle.tpl_hearing.specs.Unseen.{AreCellsBetween}
use Rattle.tpl_hearing.proofs.again.cells_up_to.Given as goal

-- the names so far are those of cells that show what was heard
abbrev pub invariant-loop-place : goal.invariant-loop-place
invariant-loop-place l = AreCellsBetween l.graph.state.signals (zip l.ids l.outcomes) l.from l.place

-- the names that are left
abbrev pub decreases-loop-place : goal.decreases-loop-place
decreases-loop-place l = length l.outcomes - l.place
