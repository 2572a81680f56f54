use Rattle.std.proofs.Common.{◌≡◌, ◌++◌, map}
use Rattle.tpl_model.specs.ShownNodes.Addresses.{address_of}
use Rattle.tpl_model.specs.ShownNodes.Shapes.{child_of}
use Rattle.tpl_drawn.specs.Addresses.{coming_in}
use Rattle.tpl_drawn.proofs.marks.arrivals.put_children.Given as goal

-- the addresses so far and those that are left are all
abbrev pub invariant-loop-child : goal.invariant-loop-child
invariant-loop-child l =
    (map address_of l.out.items ++ coming_in (map child_of l.child-iterator.rest.items)
    ≡ map address_of l.initial.out.items ++ coming_in (map child_of l.initial.child-iterator.rest.items))
