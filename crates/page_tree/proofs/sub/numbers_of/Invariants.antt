use Rattle.std.proofs.Common.{◌≡◌, ◌++◌, drop, map}
use Rattle.page_model.specs.Edits.{siblings}
use Rattle.page_tree.specs.Subs.{side_by_side, sub_tree}
use Rattle.page_tree.proofs.sub.numbers_of.Given as goal

abbrev pub invariant-loop-sub : goal.invariant-loop-sub
invariant-loop-sub l = l.numbers.items ++ siblings (side_by_side (map sub_tree (drop l.sub-index l.subs))) ≡ siblings (side_by_side (map sub_tree l.subs))
