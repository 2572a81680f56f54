use Rattle.std.proofs.Common.{length}
use Rattle.live_firing.proofs.acting.+act_in_order.Given as goal

-- fewer acts are left
abbrev pub decreases-act_in_order : goal.decreases-act_in_order
decreases-act_in_order g l = length l.acts.now
