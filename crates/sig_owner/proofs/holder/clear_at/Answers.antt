use Rattle.std.proofs.Common.{refl, sym, ◌∙◌}
use Rattle.sig_owner.specs.Tables.{emptied_row}
use Rattle.sig_owner.proofs.Rows.{live_stands, untouched, written}
use Rattle.sig_owner.proofs.holder.clear_at.Goals as goal

pub returns-then-not-is_live_at : goal.returns-then-not-is_live_at
returns-then-not-is_live_at c = untouched emptied_row refl c.args.holders.now.entries c.args.id (sym c.is_live_at.ensures ∙ c.if-not-is_live_at.true)

pub value_mut-requires : goal.value_mut-requires
value_mut-requires c = live_stands c.args.holders.now.entries c.args.id c.number.result c.number.ensures (sym c.is_live_at.ensures ∙ c.if-not-is_live_at.false)

pub returns : goal.returns
returns c =
    written c.args.holders.now.entries c.args.id c.number.result c.value_mut.result.now c.clear.new.holder emptied_row c.number.ensures c.value_mut.ensures.value c.clear.ensures
