use Rattle.std.proofs.Common.{sym, ap, ◌∙◌}
use Rattle.sig_owner.specs.Tables.{Row, items_of}
use Rattle.sig_owner.proofs.holder.made_at.Goals as goal

pub returns-in-Some : goal.returns-in-Some
returns-in-Some c = ap items_of c.deref.ensures.value ∙ sym (ap (λ (r : Row). r.items) c.in-Some.ensures.some)

pub returns-in-None : goal.returns-in-None
returns-in-None c = sym (ap (λ (r : Row). r.items) c.in-None.ensures.none)
