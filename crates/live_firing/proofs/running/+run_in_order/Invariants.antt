use Rattle.std.proofs.Common.{length}
use Rattle.live_firing.proofs.running.+run_in_order.Given as goal

-- fewer handlers are left
abbrev pub decreases-run_in_order : goal.decreases-run_in_order
decreases-run_in_order g l = length l.fired.now
