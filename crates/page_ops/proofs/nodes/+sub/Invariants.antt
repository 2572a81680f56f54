use Rattle.std.proofs.Common.{◌≡◌, ◌≤◌, suc, ℕ, List, length, map}
use Rattle.page_model.specs.Forest.{Forest, node, none}
use Rattle.page_model.specs.Labels.{Kind}
use Rattle.page_tree.specs.Subs.{side_by_side, sub_tree}
use Rattle.page_ops.specs.Parser.{IsFit, node_text}
use Rattle.page_ops.proofs.Nested.{LeftNodes}
use Rattle.page_ops.proofs.nodes.+sub.Given as goal

abbrev pub invariant-loop-alloc : goal.invariant-loop-alloc
invariant-loop-alloc l = record {
  fit : IsFit l.levels (side_by_side (map sub_tree l.subs.items));
  shorter : length l.left ≤ length l.initial.bytes;
  leads : (n : ℕ) (x : Kind) (k : Forest Kind) (rest : List ℕ) → IsFit (suc l.levels) (node n x k none) → l.initial.bytes ≡ node_text n x k rest
      → LeftNodes (side_by_side (map sub_tree l.subs.items)) l.left k rest;
}

abbrev pub decreases-loop-alloc : goal.decreases-loop-alloc
decreases-loop-alloc l = length l.left

abbrev pub decreases-sub : goal.decreases-sub
decreases-sub l = l.levels
