use Rattle.std.proofs.Common.{◌≡◌, ◌++◌, map}
use Rattle.tpl_model.specs.ShownNodes.Shapes.{mark_of}
use Rattle.tpl_live.specs.Plans.{moving}
use Rattle.tpl_live.proofs.plan.moving.Given as goal

-- the marks so far, and those of the marks that are left
abbrev pub invariant-loop-mark : goal.invariant-loop-mark
invariant-loop-mark l =
    (map mark_of l.left.items ++ moving l.tree (map mark_of l.mark-iterator.rest.items) ≡ moving l.tree (map mark_of l.initial.mark-iterator.rest.items))
