use Rattle.std.proofs.Common.{map}
use Rattle.tpl_model.specs.KeptLines.Kept.{kept}
use Rattle.tpl_kept.proofs.Renewals.Standing.{none_stand}
use Rattle.tpl_kept.proofs.renewing.rows.rows_stand.Goals as goal

pub loop-place-init : goal.loop-place-init
loop-place-init c = record { keys = λ e. e; stand = none_stand c.args.was.now c.args.rows.now (map kept c.args.memos.now.items) }

pub loop-place-preserved : goal.loop-place-preserved
loop-place-preserved c = record {
  keys = c.keep_row.ensures.keys c.if-not-keep_row.false c.loop-place.invariant.keys;
  stand = c.keep_row.ensures.stand c.if-not-keep_row.false (map kept c.args.memos.now.items) c.loop-place.invariant.stand;
}
