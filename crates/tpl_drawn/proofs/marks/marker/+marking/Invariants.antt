use Rattle.std.proofs.Common.{map}
use Rattle.tpl_model.specs.ShownNodes.Shapes.{all_shown, child_of, mark_of}
use Rattle.tpl_drawn.specs.Addresses.{number_on}
use Rattle.tpl_drawn.proofs.Numbered.Marks.{AreMarked}
use Rattle.tpl_drawn.proofs.marks.marker.+marking.Given as goal

-- the children so far with those that are left, and their marks
abbrev pub invariant-mark_all-loop-node : goal.invariant-mark_all-loop-node
invariant-mark_all-loop-node l =
    AreMarked (number_on l.page) (all_shown l.node-iterator.rest.items) (all_shown l.initial.node-iterator.rest.items)
    (map child_of l.children.items) (map mark_of l.marks.items) (map mark_of l.initial.marks.items)
