use Rattle.std.proofs.Common.{◌≡◌, ◌++◌, length, map}
use Rattle.page_ops.specs.Ops.{op_of}
use Rattle.page_tree.specs.Subs.{side_by_side, sub_tree}
use Rattle.tpl_live.specs.Pages.{inserts}
use Rattle.tpl_live.proofs.first.insertions.Given as goal

-- the insertions so far, and those that are left
abbrev pub invariant-loop-sub : goal.invariant-loop-sub
invariant-loop-sub l =
    map op_of l.ops.items ++ inserts (length l.ops.items) (side_by_side (map sub_tree l.sub-iterator.rest.items))
    ≡ inserts 0 (side_by_side (map sub_tree l.initial.sub-iterator.rest.items))
