use Rattle.std.proofs.Common.{◌≡◌, ◌++◌, map}
use Rattle.page_model.specs.Forest.{keys}
use Rattle.tpl_model.specs.ShownNodes.Addresses.{address_of}
use Rattle.tpl_model.specs.ShownNodes.Shapes.{all_shown}
use Rattle.tpl_drawn.proofs.marks.numbers.put_addresses.Given as goal

-- the addresses so far and those that are left are all
abbrev pub invariant-loop-node : goal.invariant-loop-node
invariant-loop-node l =
    (map address_of l.out.items ++ keys (all_shown l.node-iterator.rest.items)
    ≡ map address_of l.initial.out.items ++ keys (all_shown l.initial.node-iterator.rest.items))
