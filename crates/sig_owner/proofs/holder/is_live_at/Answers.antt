use Rattle.std.proofs.Common.{sym, ap}
use Rattle.sig_owner.specs.Tables.{Row}
use Rattle.sig_owner.proofs.holder.is_live_at.Goals as goal

pub returns-in-Some : goal.returns-in-Some
returns-in-Some c = sym (ap (λ (r : Row). r.live) c.in-Some.ensures.some)

pub returns-in-None : goal.returns-in-None
returns-in-None c = sym (ap (λ (r : Row). r.live) c.in-None.ensures.none)
