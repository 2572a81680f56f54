use Rattle.std.proofs.Common.{ap, ◌∙◌}
use Rattle.sig_owner.specs.Removals.{is_leaf_of}
use Rattle.sig_owner.specs.Tables.{items_of, row_of}
use Rattle.sig_owner.proofs.Rows.{items_kept}
use Rattle.sig_owner.proofs.holder.drop_leaf.Goals as goal

pub returns : goal.returns
returns c =
    ap (λ is. record (row_of c.args.holder.now) { items = is }) (ap items_of c.sift_leaves.ensures ∙ items_kept (is_leaf_of c.args.thing.now) c.args.holder.now.made.items)
