use Rattle.std.proofs.Common.{◌≡◌, ◌++◌, map}
use Rattle.tpl_model.specs.ShownNodes.Shapes.{child_of}
use Rattle.tpl_drawn.proofs.comparing.children.put_all.Given as goal

-- the children so far and those that are left are all
abbrev pub invariant-loop-child : goal.invariant-loop-child
invariant-loop-child l =
    (map child_of l.children.items ++ map child_of l.child-iterator.rest.items
    ≡ map child_of l.initial.children.items ++ map child_of l.initial.child-iterator.rest.items)
