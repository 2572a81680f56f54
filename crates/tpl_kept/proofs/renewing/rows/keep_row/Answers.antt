use Rattle.std.proofs.Common.{map, sym, ◌∙◌}
use Rattle.tpl_model.specs.KeptLines.Kept.{kept}
use Rattle.tpl_kept.proofs.Renewals.Standing.{alike_keys, row_left, row_stands, same_keys}
use Rattle.tpl_kept.proofs.renewing.rows.keep_row.Goals as goal

pub returns-then-alike-clause-keys : goal.returns-then-alike-clause-keys
returns-then-alike-clause-keys c = λ e left.
    alike_keys c.args.was.now c.args.rows.now c.args.place c.requires.there c.requires.place (c.alike.ensures.same c.if-alike.true) left

pub returns-then-alike-clause-stand : goal.returns-then-alike-clause-stand
returns-then-alike-clause-stand c = λ e old stand.
    row_stands c.args.was.now c.args.rows.now c.args.place old (map kept c.args.memos.now.items) c.requires.there (c.alike.ensures.same c.if-alike.true) stand

pub returns-clause-keys : goal.returns-clause-keys
returns-clause-keys c = λ e left.
    same_keys c.args.was.now.rows c.args.rows.now.rows c.args.place c.row.result.now c.row-2.result.now c.requires.there c.requires.place c.row.ensures
    c.row-2.ensures (sym c.eq-same.ensures ∙ c.if-not-same.false) left

pub returns-clause-stand : goal.returns-clause-stand
returns-clause-stand c = λ e old stand.
    row_left c.args.was.now c.args.rows.now c.args.place old (map kept c.args.memos.now.items) (map kept c.leave_row.new.memos.items) c.leave_row.ensures stand
