use Rattle.std.proofs.Common.{◌≡◌, ◌+◌, suc, refl, sym, ap, subst, ◌∙◌, arith}
use Rattle.std.specs.Box.{box_value}
use Rattle.tpl_hearing.specs.HeardAgain.{AreSame}
use Rattle.tpl_model.specs.KeptLines.Kept.{heard_of, kept}
use Rattle.tpl_model.proofs.MemoEquations.{kept_line}
use Rattle.tpl_kept.specs.SameTexts.{kept_behind, AreSameTexts}
use Rattle.tpl_kept.proofs.Renewals.Leading.{same_more}
use Rattle.tpl_kept.proofs.renewing.leading.count_same.Goals as goal

pub passing-init : goal.passing-init
passing-init c = record { same = tt; behind = refl }

pub passing-preserved : goal.passing-preserved
passing-preserved c =
    let before = c.args.before.now in
    let heard = c.args.hearing.now.heard in
    let m = kept c.args.memo.now in
    let v = c.passing.invariant in
    let n = c.passing.count in
    let more = same_more n before heard m (heard_of c.in-Line.line) (kept (box_value c.in-Line.later)) v.same
    (sym (ap kept c.in-Line.is ∙ kept_line c.in-Line.line c.in-Line.later) ∙ v.behind)
    (subst (λ ns. AreSame before ns heard heard) c.deref.ensures.value (c.are_same.ensures c.if-not-are_same.false)) in
    let next : suc n ≡ n + 1 = omega arith in
    record {
      same = subst (λ k. AreSameTexts k before heard m) next more.0;
      behind = ap kept c.deref-at.ensures ∙ subst (λ k. kept (box_value c.in-Line.later) ≡ kept_behind k m) next more.1;
    }
