use Rattle.std.proofs.Common.{drop}
use Rattle.page_model.specs.Labels.{Sound}
use Rattle.tpl_scratch.specs.Pages.{nodes_of, with_nodes}
use Rattle.tpl_model.specs.ShownNodes.Shapes.{all_shown}
use Rattle.tpl_patch.proofs.Subtrees.{ArePut}
use Rattle.tpl_patch.proofs.arrivals.+coming.Given as goal

abbrev pub invariant-put_nodes-loop-node : goal.invariant-put_nodes-loop-node
invariant-put_nodes-loop-node l =
    Sound (all_shown l.nodes) → ArePut (drop l.node-index l.nodes) (nodes_of l.out) (with_nodes (nodes_of l.initial.out) (all_shown l.nodes))
