use Rattle.std.proofs.Common.{refl, sym, ◌∙◌}
use Rattle.sig_owner.specs.Removals.{is_held_of, sifted_row}
use Rattle.sig_owner.proofs.Rows.{live_stands, untouched, written}
use Rattle.sig_owner.proofs.holder.drop_held_at.Goals as goal

pub returns-then-not-is_live_at : goal.returns-then-not-is_live_at
returns-then-not-is_live_at c = untouched (sifted_row (is_held_of c.args.id)) refl c.args.holders.now.entries c.args.outer (sym c.is_live_at.ensures ∙ c.if-not-is_live_at.true)

pub value_mut-requires : goal.value_mut-requires
value_mut-requires c = live_stands c.args.holders.now.entries c.args.outer c.number.result c.number.ensures (sym c.is_live_at.ensures ∙ c.if-not-is_live_at.false)

pub returns : goal.returns
returns c =
    written c.args.holders.now.entries c.args.outer c.number.result c.value_mut.result.now c.drop_held.new.holder (sifted_row (is_held_of c.args.id)) c.number.ensures c.value_mut.ensures.value c.drop_held.ensures
