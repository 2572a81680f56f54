use Rattle.std.proofs.Common.{arith, ap, ◌∙◌}
use Rattle.sig_owner.specs.Tables.{owner_count, rows_of}
use Rattle.sig_owner.proofs.Counts.{count_ended}
use Rattle.sig_owner.proofs.holder.end_one.Goals as goal

pub returns-clause-count : goal.returns-clause-count
returns-clause-count c =
    let less = c.discount.ensures ∙ c.requires in
    let after = ap owner_count c.end_at.ensures in
    omega (arith, less, after, count_ended (rows_of c.args.holders.now.entries) c.args.id)
