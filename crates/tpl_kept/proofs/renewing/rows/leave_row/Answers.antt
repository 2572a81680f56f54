use Rattle.std.specs.Prelude.{slice_set}
use Rattle.std.proofs.Common.{map, ap, ◌∙◌}
use Rattle.tpl_model.specs.KeptLines.Kept.{kept}
use Rattle.tpl_model.specs.declared.memo.PageMemo.TheVariants.{Unread}
use Rattle.tpl_model.proofs.MemoEquations.{kept_unread}
use Rattle.tpl_kept.proofs.Renewals.RowMemos.{left_out}
use Rattle.tpl_kept.proofs.renewing.rows.leave_row.Goals as goal

pub returns-then-place-len : goal.returns-then-place-len
returns-then-place-len c =
    left_out kept c.args.memos.now.items c.args.place Unread ∙ ap (slice_set (map kept c.args.memos.now.items) c.args.place) kept_unread
