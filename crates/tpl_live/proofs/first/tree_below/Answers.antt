use Rattle.std.proofs.Common.{ap, map, ◌∙◌}
use Rattle.page_ops.specs.Ops.{op_of}
use Rattle.page_tree.specs.Subs.{side_by_side, sub_tree}
use Rattle.tpl_live.proofs.first.tree_below.Goals as goal

pub tree_by-requires : goal.tree_by-requires
tree_by-requires c = record {
  below = side_by_side (map sub_tree c.args.subs.items);
  inserted = c.requires;
  are = ap (map op_of) c.deref.ensures.value ∙ c.in_ok-ops.ensures;
}

pub returns : goal.returns
returns c =
    c.in_ok-tree.ensures (side_by_side (map sub_tree c.args.subs.items)) c.requires (ap (map op_of) c.deref.ensures.value ∙ c.in_ok-ops.ensures)
