use Rattle.std.proofs.Common.{◌≡◌, ℕ, true, List}
use Rattle.signal_model.specs.Signals.{is_in}
use Rattle.sig_nodes.specs.declared.node.Node.{Node}
use Rattle.sig_graph.specs.Places.{KeepsFound}
use Rattle.sig_graph.specs.Search.{HasDue}
use Rattle.sig_graph.proofs.search.note_fresh.Given as goal

abbrev pub invariant-loop-number : goal.invariant-loop-number
invariant-loop-number l = (xs : List Node) (g : ℕ) → ((m : ℕ) → is_in m l.fresh ≡ true → HasDue xs g m) → KeepsFound xs g l.worn l.fn.finds → KeepsFound xs g l.worn l.finds
