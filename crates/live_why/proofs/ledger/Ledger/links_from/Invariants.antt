use Rattle.std.proofs.Common.{◌≡◌, ◌++◌, ◌≤◌, length}
use Rattle.why_model.specs.Chains.{links_from}
use Rattle.live_why.specs.Marking.{back}
use Rattle.live_why.proofs.ledger.Ledger.links_from.Given as goal

abbrev pub invariant-loop-link : goal.invariant-loop-link
invariant-loop-link l = record {
  inside : l.number ≤ length l.self.facts.items;
  whole : links_from (back l.self.facts.items) l.start ≡ l.links.items ++ links_from (back l.self.facts.items) l.number;
}

abbrev pub decreases-loop-link : goal.decreases-loop-link
decreases-loop-link l = l.number
