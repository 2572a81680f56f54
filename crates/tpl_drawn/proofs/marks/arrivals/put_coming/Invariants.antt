use Rattle.std.proofs.Common.{◌≡◌, ◌++◌, map}
use Rattle.tpl_model.specs.ShownNodes.Addresses.{address_of}
use Rattle.tpl_model.specs.ShownNodes.Shapes.{mark_of}
use Rattle.tpl_drawn.specs.Addresses.{coming_below}
use Rattle.tpl_drawn.proofs.marks.arrivals.put_coming.Given as goal

-- the addresses so far and those that are left are all
abbrev pub invariant-loop-mark : goal.invariant-loop-mark
invariant-loop-mark l =
    (map address_of l.out.items ++ coming_below (map mark_of l.mark-iterator.rest.items)
    ≡ map address_of l.initial.out.items ++ coming_below (map mark_of l.initial.mark-iterator.rest.items))
