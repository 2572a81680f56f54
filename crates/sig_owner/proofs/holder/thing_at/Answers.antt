use Rattle.std.proofs.Common.{sym, ap}
use Rattle.sig_owner.specs.Tables.{Row}
use Rattle.sig_owner.proofs.holder.thing_at.Goals as goal

pub returns : goal.returns
returns c = sym (ap (λ (r : Row). r.holder) c.in-Some.ensures.some)
