use Rattle.std.proofs.Common.{ap, ◌∙◌}
use Rattle.std.specs.Box.{box_value}
use Rattle.tpl_hearing.proofs.Shared.{nothing_heard, then_heard}
use Rattle.tpl_model.specs.PageUpdates.PageMemos.{names}
use Rattle.tpl_model.specs.KeptLines.Kept.{heard_of, kept}
use Rattle.tpl_model.proofs.MemoEquations.{kept_blank, kept_line}
use Rattle.tpl_kept.proofs.Renewals.Lined.{line_other, line_same, none_same}
use Rattle.tpl_kept.proofs.renewing.update.+names_stay.Goals as goal

pub returns-in-Blank-clause-again : goal.returns-in-Blank-clause-again
returns-in-Blank-clause-again g t c =
    none_same c.args.before.now c.args.hearing.now.heard (kept c.args.memo.now) (ap names (ap kept c.in-Blank.is ∙ kept_blank))

pub returns-in-Blank-clause-after : goal.returns-in-Blank-clause-after
returns-in-Blank-clause-after g t c = nothing_heard _ _ c.args.hearing.now.heard c.requires.can.idle

pub returns-then-not-branch-clause-again : goal.returns-then-not-branch-clause-again
returns-then-not-branch-clause-again g t c =
    line_other c.args.before.now (heard_of c.in-Line.line) (kept (box_value c.in-Line.rest)) (kept c.args.memo.now) c.deref.result.now
    c.args.hearing.now.heard c.hear_again.new.hearing.heard c.in_ok-hear_again-in-Line.field-0 (ap kept c.in-Line.is ∙ kept_line c.in-Line.line c.in-Line.rest)
    c.deref.ensures.value c.if-not-branch.true c.in_ok-hear_again-in-Line.ensures.again

pub returns-in_ok-same-in-Line-clause-again : goal.returns-in_ok-same-in-Line-clause-again
returns-in_ok-same-in-Line-clause-again g t c =
    line_same c.in_ok-same-in-Line.same c.args.before.now (heard_of c.in-Line.line) (kept (box_value c.in-Line.rest)) (kept c.args.memo.now) c.deref.result.now
    (kept c.deref-in-Line.result.now) c.args.hearing.now.heard c.hear_again.new.hearing.heard c.names_stay.new.hearing.heard c.in_ok-hear_again-in-Line.field-0
    (ap kept c.in-Line.is ∙ kept_line c.in-Line.line c.in-Line.rest) c.deref.ensures.value (ap kept c.deref-in-Line.ensures) c.if-not-branch.false
    c.in_ok-hear_again-in-Line.ensures.again c.in_ok-same-in-Line.ensures.after.grows c.in_ok-same-in-Line.ensures.again

pub returns-in_ok-same-in-Line-clause-after : goal.returns-in_ok-same-in-Line-clause-after
returns-in_ok-same-in-Line-clause-after g t c =
    then_heard _ _ _ _ _ _ _ _ _ c.in_ok-hear_again-in-Line.ensures.after c.in_ok-same-in-Line.ensures.after
