use Rattle.std.proofs.Common.{refl, sym, ap, ◌∙◌}
use Rattle.sig_owner.specs.Tables.{ended_row, rows_of}
use Rattle.sig_owner.proofs.Rows.{live_stands, removed, untouched}
use Rattle.sig_owner.proofs.holder.end_at.Goals as goal

pub returns-then-not-is_live_at : goal.returns-then-not-is_live_at
returns-then-not-is_live_at c = untouched ended_row refl c.args.holders.now.entries c.args.id (sym c.is_live_at.ensures ∙ c.if-not-is_live_at.true)

pub remove-requires : goal.remove-requires
remove-requires c = live_stands c.args.holders.now.entries c.args.id c.number.result c.number.ensures (sym c.is_live_at.ensures ∙ c.if-not-is_live_at.false)

pub returns : goal.returns
returns c = ap rows_of c.remove.ensures.entries ∙ removed c.args.holders.now.entries c.args.id c.number.result c.number.ensures
