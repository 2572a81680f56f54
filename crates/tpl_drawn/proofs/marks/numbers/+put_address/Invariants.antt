use Rattle.std.proofs.Common.{◌≡◌, ◌++◌, map}
use Rattle.page_model.specs.Forest.{keys}
use Rattle.tpl_model.specs.ShownNodes.Addresses.{address_of}
use Rattle.tpl_model.specs.ShownNodes.Shapes.{all_shown}
use Rattle.tpl_drawn.proofs.marks.numbers.+put_address.Given as goal

-- the addresses so far and those that are left are all
abbrev pub invariant-loop-child : goal.invariant-loop-child
invariant-loop-child l =
    (map address_of l.out.items ++ keys (all_shown l.child-iterator.rest.items)
    ≡ map address_of l.initial.out.items ++ keys (all_shown l.initial.child-iterator.rest.items))
