use Rattle.std.proofs.Common.{◌≡◌, ◌++◌, map, drop}
use Rattle.std.specs.List.{flat_map}
use Rattle.page_ops.specs.Ops.{op_of}
use Rattle.tpl_patch.specs.Attributes.{mark_told}
use Rattle.tpl_model.specs.ShownNodes.Shapes.{mark_of}
use Rattle.tpl_patch.proofs.looks.put_looks.Given as goal

abbrev pub invariant-loop-mark : goal.invariant-loop-mark
invariant-loop-mark l =
    map op_of l.ops.items ++ flat_map (mark_told l.tree) (map mark_of (drop l.mark-index l.marks))
    ≡ map op_of l.initial.ops.items ++ flat_map (mark_told l.tree) (map mark_of l.marks)
