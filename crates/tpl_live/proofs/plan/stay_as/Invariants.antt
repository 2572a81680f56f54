use Rattle.std.proofs.Common.{◌≡◌, drop, map}
use Rattle.tpl_model.specs.ShownNodes.Shapes.{child_of}
use Rattle.tpl_live.specs.Plans.{stay_as}
use Rattle.tpl_live.proofs.plan.stay_as.Given as goal

-- those that are left stay at their places exactly where all do
abbrev pub invariant-loop-place : goal.invariant-loop-place
invariant-loop-place l = (stay_as (map child_of (drop l.place l.children)) (drop l.place l.numbers) ≡ stay_as (map child_of l.children) l.numbers)
