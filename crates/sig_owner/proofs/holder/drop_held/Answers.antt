use Rattle.std.proofs.Common.{ap, ◌∙◌}
use Rattle.sig_owner.specs.Removals.{is_held_of}
use Rattle.sig_owner.specs.Tables.{items_of, row_of}
use Rattle.sig_owner.proofs.Rows.{items_kept}
use Rattle.sig_owner.proofs.holder.drop_held.Goals as goal

pub returns : goal.returns
returns c =
    ap (λ is. record (row_of c.args.holder.now) { items = is }) (ap items_of c.sift_held.ensures ∙ items_kept (is_held_of c.args.id) c.args.holder.now.made.items)
