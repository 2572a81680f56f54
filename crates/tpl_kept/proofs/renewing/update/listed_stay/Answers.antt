use Rattle.std.proofs.Common.{◌≡◌, ◌++◌, refl, ap, ◌∙◌}
use Rattle.tpl_model.specs.PageUpdates.PageMemos.{names}
use Rattle.tpl_model.specs.KeptLines.Kept.{kept}
use Rattle.tpl_kept.proofs.Listened.Splits.{again_as}
use Rattle.tpl_kept.proofs.renewing.update.listed_stay.Goals as goal

pub returns-clause-again : goal.returns-clause-again
returns-clause-again g c =
    let all = names (kept c.args.memo.now) in
    let ids : c.deref.result.now ≡ all = c.deref.ensures.value ∙ (c.in_ok-put_names.ensures ∙ ap (λ z. z ++ all) c.new-ids.ensures.items) in
    again_as c.in_ok-same.same c.in_ok-same.same c.args.before.now c.deref.result.now all c.args.hearing.now.heard c.hear_again.new.hearing.heard refl ids c.in_ok-same.ensures.again
