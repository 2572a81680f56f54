use Rattle.std.proofs.Common.{sym, ap, ◌∙◌}
use Rattle.sig_owner.specs.Tables.{is_row_of, thing_of}
use Rattle.sig_owner.proofs.holder.is_thing_at.Goals as goal

pub returns-in-Some : goal.returns-in-Some
returns-in-Some c = c.is_thing.ensures ∙ sym (ap (is_row_of (thing_of c.args.thing.now)) c.in-Some.ensures.some)

pub returns-in-None : goal.returns-in-None
returns-in-None c = sym (ap (is_row_of (thing_of c.args.thing.now)) c.in-None.ensures.none)
