use Rattle.std.proofs.Common.{◌≡◌, ◌++◌, drop, map}
use Rattle.page_model.specs.Forest.{keys}
use Rattle.page_tree.specs.Subs.{side_by_side, sub_tree}
use Rattle.page_ops.proofs.numbers.+put_numbers.Given as goal

abbrev pub invariant-loop-sub : goal.invariant-loop-sub
invariant-loop-sub l = l.out.items ++ keys (side_by_side (map sub_tree (drop l.sub-index l.sub-items))) ≡ l.initial.out.items ++ keys (side_by_side (map sub_tree l.sub-items))
