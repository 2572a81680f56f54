use Rattle.std.proofs.Common.{◌≡◌, ℕ, ◌+◌, ◌-◌, ◌*◌, ◌≤◌, true, length}
use Rattle.sig_base.specs.declared.limits.TheConstants.{MOST_NODES}
use Rattle.signal_model.specs.Signals.{is_in}
use Rattle.sig_graph.specs.Search.{IsWay, Reaches}
use Rattle.sig_graph.proofs.search.goes_to_due.Given as goal

abbrev pub invariant-loop-id : goal.invariant-loop-id
invariant-loop-id l = record {
  way : (root : ℕ) → IsWay l.nodes.items l.generation root l.fn.trail → IsWay l.nodes.items l.generation root l.trail;
  part : Reaches l.nodes.items l.marks.marked l.generation l.reached l.trail;
  more : (s : ℕ) → is_in s l.fn.reached ≡ true → is_in s l.reached ≡ true;
  room : length l.trail ≤ length l.reached;
  most : length l.reached ≤ MOST_NODES;
}

abbrev pub decreases-loop-id : goal.decreases-loop-id
decreases-loop-id l = length l.trail + 2 * (MOST_NODES - length l.reached)
