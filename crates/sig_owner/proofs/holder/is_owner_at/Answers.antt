use Rattle.std.proofs.Common.{sym, ap, ◌∙◌}
use Rattle.sig_owner.specs.Tables.{is_owner_row}
use Rattle.sig_owner.proofs.holder.is_owner_at.Goals as goal

pub returns-in-Some : goal.returns-in-Some
returns-in-Some c = c.is_owner.ensures ∙ sym (ap is_owner_row c.in-Some.ensures.some)

pub returns-in-None : goal.returns-in-None
returns-in-None c = sym (ap is_owner_row c.in-None.ensures.none)
