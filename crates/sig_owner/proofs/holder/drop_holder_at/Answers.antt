use Rattle.std.proofs.Common.{sym, ap, ◌∙◌}
use Rattle.sig_owner.specs.Removals.{is_held_of}
use Rattle.sig_owner.specs.Tables.{owner_count, rows_of}
use Rattle.sig_owner.proofs.Counts.{count_sifted}
use Rattle.sig_owner.proofs.holder.drop_holder_at.Goals as goal

pub end_one-requires : goal.end_one-requires
end_one-requires c = c.requires ∙ sym (ap owner_count c.drop_inside.ensures ∙ count_sifted c.above_at-above.result (is_held_of c.args.id) (rows_of c.args.holders.now.entries))
