use Rattle.std.proofs.Common.{◌≡◌, ◌++◌, drop, map}
use Rattle.page_model.specs.Texts.{AreSized, written_nodes}
use Rattle.page_tree.specs.Subs.{side_by_side, sub_tree}
use Rattle.page_ops.proofs.writer.+put_sub.Given as goal

abbrev pub invariant-loop-sub : goal.invariant-loop-sub
invariant-loop-sub l = record {
  text : l.out.items ++ written_nodes (side_by_side (map sub_tree (drop l.sub-index l.sub-items))) ≡ l.initial.out.items ++ written_nodes (side_by_side (map sub_tree l.sub-items));
  sized : AreSized (side_by_side (map sub_tree (drop l.sub-index l.sub-items))) → AreSized (side_by_side (map sub_tree l.sub-items));
}
