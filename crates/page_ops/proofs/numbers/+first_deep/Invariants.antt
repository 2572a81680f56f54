use Rattle.std.proofs.Common.{◌≡◌, suc, drop, map}
use Rattle.page_model.specs.Replay as replay
use Rattle.page_tree.specs.Subs.{side_by_side, sub_tree}
use Rattle.page_ops.proofs.numbers.+first_deep.Given as goal

abbrev pub invariant-loop-sub : goal.invariant-loop-sub
invariant-loop-sub l = replay.first_deep (suc l.steps) (side_by_side (map sub_tree (drop l.sub-index l.sub-items))) ≡ replay.first_deep (suc l.steps) (side_by_side (map sub_tree l.sub-items))
