use Rattle.std.proofs.Common.{◌-◌, ap, sym, ◌∙◌, arith}
use Rattle.std.specs.Box.{box_value}
use Rattle.tpl_model.specs.PageUpdates.PageMemos.{line}
use Rattle.tpl_model.specs.KeptLines.Kept.{heard_of, kept}
use Rattle.tpl_model.proofs.MemoEquations.{kept_line}
use Rattle.tpl_kept.specs.SameTexts.{kept_behind, with_behind}
use Rattle.tpl_kept.proofs.Renewals.Leading.{with_less}
use Rattle.tpl_kept.proofs.renewing.leading.+swap_behind.Goals as goal

pub returns-then-count-eq0-clause-other : goal.returns-then-count-eq0-clause-other
returns-then-count-eq0-clause-other t c = ap kept c.swap.ensures.y_after ∙ ap (λ n. kept_behind n (kept c.args.memo.now)) (sym c.if-count-eq0.true)

pub returns-then-count-eq0-clause-memo : goal.returns-then-count-eq0-clause-memo
returns-then-count-eq0-clause-memo t c =
    ap kept c.swap.ensures.x_after ∙ ap (λ n. with_behind n (kept c.args.memo.now) (kept c.args.other.now)) (sym c.if-count-eq0.true)

pub returns-clause-memo : goal.returns-clause-memo
returns-clause-memo t c =
    let some = c.if-count-eq0.false in
    let place = c.deref_mut.ensures.value ∙ ap box_value c.in-Line.later-is in
    let h = heard_of c.in-Line.line in
    kept_line _ _ ∙ ap (λ z. line (heard_of z) (kept c.swap_behind.new.memo)) c.in-Line.line-is
    ∙ ap (line h) (c.swap_behind.ensures.memo ∙ ap (λ z. with_behind (c.args.count - 1) (kept z) (kept c.args.other.now)) place)
    ∙ with_less c.args.count (kept c.args.memo.now) h (kept (box_value c.in-Line.later)) (kept c.args.other.now) (omega (arith, some))
    (ap kept c.in-Line.is ∙ kept_line c.in-Line.line c.in-Line.later)
