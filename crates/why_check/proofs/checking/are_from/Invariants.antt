use Rattle.std.proofs.Common.{◌≡◌, ◌↔◌, drop, length}
use Rattle.why_model.specs.Chains.{links_from}
use Rattle.live_why.specs.Views.{past}
use Rattle.why_check.proofs.checking.are_from.Given as goal

abbrev pub invariant-loop-link : goal.invariant-loop-link
invariant-loop-link l =
    (links_from (past l.facts (length l.facts)) l.start ≡ l.links)
    ↔ (links_from (past l.facts (length l.facts)) l.number ≡ drop l.link-index l.links)
