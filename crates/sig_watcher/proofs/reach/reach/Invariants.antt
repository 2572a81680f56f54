use Rattle.std.proofs.Common.{◌-◌}
use Rattle.sig_base.specs.declared.limits.TheConstants.{MOST_NODES}
use Rattle.sig_watcher.proofs.Closure.{IsUnderway}
use Rattle.sig_watcher.proofs.reach.reach.Given as goal

abbrev pub decreases-loop-seat : goal.decreases-loop-seat
decreases-loop-seat l = MOST_NODES - l.place

abbrev pub invariant-loop-seat : goal.invariant-loop-seat
invariant-loop-seat l = IsUnderway l.graph l.fn.ids l.reached l.place
