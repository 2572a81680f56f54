use Rattle.std.proofs.Common.{sym, ap, ◌∙◌}
use Rattle.sig_owner.specs.Tables.{is_open, rows_of}
use Rattle.sig_owner.proofs.holder.put_inside.Goals as goal

pub put_at-requires : goal.put_at-requires
put_at-requires c = sym (ap (is_open (rows_of c.args.holders.now.entries)) c.in-Some.is) ∙ c.requires
