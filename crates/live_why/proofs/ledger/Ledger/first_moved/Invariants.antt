use Rattle.std.proofs.Common.{◌≡◌, drop}
use Rattle.why_model.specs.Chains.{first_moved}
use Rattle.live_why.specs.Marking.{back}
use Rattle.live_why.proofs.ledger.Ledger.first_moved.Given as goal

abbrev pub invariant-loop-read : goal.invariant-loop-read
invariant-loop-read l =
    first_moved l.since (drop l.read-index l.reads) (back l.self.facts.items) ≡ first_moved l.since l.reads (back l.self.facts.items)
