use Rattle.std.proofs.Common.{ℕ, List, length}
use Rattle.sig_nodes.specs.declared.node.Node.{Node}
use Rattle.sig_graph.specs.Places.{KeepsFound}
use Rattle.sig_graph.specs.Search.{AreDue}
use Rattle.sig_graph.proofs.search.note_all.Given as goal

abbrev pub invariant-loop-id : goal.invariant-loop-id
invariant-loop-id l = (xs : List Node) (g : ℕ) → AreDue xs g l.fn.trail → KeepsFound xs g l.worn l.fn.finds → AreDue xs g l.trail × KeepsFound xs g l.worn l.finds

abbrev pub decreases-loop-id : goal.decreases-loop-id
decreases-loop-id l = length l.trail
