use Rattle.std.proofs.Common.{◌≡◌, drop}
use Rattle.why_model.specs.Chains.{first_moved}
use Rattle.live_why.specs.Views.{past}
use Rattle.why_check.proofs.causes.first_moved.Given as goal

abbrev pub invariant-loop-read : goal.invariant-loop-read
invariant-loop-read l =
    first_moved l.since (drop l.read-index l.reads) (past l.facts l.before) ≡ first_moved l.since l.reads (past l.facts l.before)
