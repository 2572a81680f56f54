use Rattle.std.proofs.Common.{◌≡◌, ◌++◌, map, drop}
use Rattle.page_model.specs.Forest.{none}
use Rattle.tpl_scratch.specs.Pages.{nodes_of, with_nodes}
use Rattle.tpl_model.specs.ShownNodes.Shapes.{child_of}
use Rattle.tpl_patch.specs.Moves.{AreSound, arrivals, next_numbers}
use Rattle.tpl_patch.proofs.arrivals.row_of.Given as goal

-- the children that are left come behind those so far
abbrev pub invariant-loop-child : goal.invariant-loop-child
invariant-loop-child l = record {
  sound : AreSound (map child_of (drop l.child-index l.children));
  numbers : l.numbers.items ++ next_numbers l.coming.next (map child_of (drop l.child-index l.children)) ≡ next_numbers l.next (map child_of l.children);
  put : with_nodes (nodes_of l.coming) (arrivals (map child_of (drop l.child-index l.children)))
      ≡ with_nodes (record { nodes = none; next = l.next }) (arrivals (map child_of l.children));
}
