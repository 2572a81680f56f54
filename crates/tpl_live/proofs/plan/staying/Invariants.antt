use Rattle.std.proofs.Common.{◌≡◌, ◌++◌, drop, map}
use Rattle.tpl_model.specs.ShownNodes.Shapes.{mark_of}
use Rattle.tpl_live.specs.Plans.{children_staying}
use Rattle.tpl_live.proofs.plan.staying.Given as goal

-- the numbers so far, and those of the marks that are left
abbrev pub invariant-loop-mark : goal.invariant-loop-mark
invariant-loop-mark l = (l.numbers.items ++ children_staying (map mark_of (drop l.mark-index l.marks)) ≡ children_staying (map mark_of l.marks))
