use Rattle.std.proofs.Common.{◌≡◌, ◌++◌, None, map}
use Rattle.tpl_drawn.specs.Marks.{children_in}
use Rattle.tpl_model.specs.ShownNodes.Shapes.{all_shown, child_of}
use Rattle.tpl_drawn.proofs.comparing.children.put_new.Given as goal

-- the children so far and those that are left are all
abbrev pub invariant-loop-node : goal.invariant-loop-node
invariant-loop-node l =
    (map child_of l.children.items ++ children_in (λ a. None) (all_shown l.node-iterator.rest.items)
    ≡ map child_of l.initial.children.items ++ children_in (λ a. None) (all_shown l.initial.node-iterator.rest.items))
