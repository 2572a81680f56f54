use Rattle.std.proofs.Common.{◌≡◌, ◌++◌, drop, map}
use Rattle.tpl_model.specs.ShownNodes.Shapes.{child_of}
use Rattle.tpl_live.specs.Plans.{numbers_staying}
use Rattle.tpl_live.proofs.plan.put_all_staying.Given as goal

-- the numbers so far, and those of the children that are left
abbrev pub invariant-loop-child : goal.invariant-loop-child
invariant-loop-child l =
    (l.out.items ++ numbers_staying (map child_of (drop l.child-index l.children)) ≡ l.initial.out.items ++ numbers_staying (map child_of l.children))
