use Rattle.std.proofs.Common.{◌≡◌, ◌++◌, ◌∷◌, ◌≤◌, ℕ, List, length}
use Rattle.page_model.specs.Forest.{Forest}
use Rattle.page_model.specs.Labels.{Kind}
use Rattle.page_model.specs.Texts.{written_attributes, written_nodes}
use Rattle.page_ops.specs.Parser.{AreFit}
use Rattle.page_ops.proofs.Listed.{Left}
use Rattle.page_ops.proofs.nodes.attributes.Given as goal

abbrev pub invariant-loop-alloc : goal.invariant-loop-alloc
invariant-loop-alloc l = record {
  fit : AreFit l.list.items;
  shorter : length l.left ≤ length l.bytes;
  leads : (xs : List (List ℕ × List ℕ)) (k : Forest Kind) (rest : List ℕ) → AreFit xs → l.bytes ≡ written_attributes xs ++ (written_nodes k ++ 41 ∷ rest) → Left l.list.items l.left xs (written_nodes k ++ 41 ∷ rest);
}

abbrev pub decreases-loop-alloc : goal.decreases-loop-alloc
decreases-loop-alloc l = length l.left
