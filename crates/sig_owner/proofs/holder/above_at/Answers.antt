use Rattle.std.proofs.Common.{sym, ap}
use Rattle.sig_owner.specs.Tables.{Row}
use Rattle.sig_owner.proofs.holder.above_at.Goals as goal

pub returns-in-Some : goal.returns-in-Some
returns-in-Some c = sym (ap (λ (r : Row). r.above) c.in-Some.ensures.some)

pub returns-in-None : goal.returns-in-None
returns-in-None c = sym (ap (λ (r : Row). r.above) c.in-None.ensures.none)
