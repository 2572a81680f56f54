use Rattle.std.proofs.Common.{map, drop}
use Rattle.page_ops.specs.Ops.{op_of}
use Rattle.tpl_model.specs.ShownNodes.Shapes.{mark_of}
use Rattle.tpl_patch.proofs.Operations.{AreMoved}
use Rattle.tpl_patch.proofs.moves.put_moves.Given as goal

abbrev pub invariant-loop-mark : goal.invariant-loop-mark
invariant-loop-mark l =
    AreMoved l.tree (map mark_of l.marks) (map mark_of (drop l.mark-index l.marks)) l.next l.number
    (map op_of l.initial.ops.items) (map op_of l.ops.items)
