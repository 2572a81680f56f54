use Rattle.std.proofs.Common.{length}
use Rattle.script_items.proofs.Chains.{Goes}
use Rattle.script_items.proofs.chain.links_of.Given as goal

abbrev pub invariant-loop-sign : goal.invariant-loop-sign
invariant-loop-sign l = Goes l.text l.links.items l.rule l.rest

abbrev pub decreases-loop-sign : goal.decreases-loop-sign
decreases-loop-sign l = length l.rest
