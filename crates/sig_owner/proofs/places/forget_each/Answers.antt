use Rattle.std.proofs.Common.{◌++◌, ◌∷◌, [], None, cond, take, sym, ap, ◌∙◌}
use Rattle.std.proofs.lemmas.List.{take_more}
use Rattle.sig_owner.specs.Keys.{are_gone_in, is_gone_in, placed}
use Rattle.sig_owner.proofs.Vacancies.{forgotten, gone_more}
use Rattle.sig_owner.proofs.places.forget_each.Goals as goal

pub loop-undoing-preserved : goal.loop-undoing-preserved
loop-undoing-preserved c = λ t. (
    let us = c.args.undoings.now in
    let i = c.loop-undoing.undoing-index in
    let u = c.undoing-item.result in
    c.forget_one.ensures t
    ∙ (ap (λ o. cond (is_gone_in u t) None o) (c.loop-undoing.invariant t)
    ∙ (forgotten (are_gone_in (take i us) t) (is_gone_in u t) (placed c.args.places.now t)
    ∙ sym (ap (λ xs. cond (are_gone_in xs t) None (placed c.args.places.now t)) (take_more us i u c.loop-undoing-test.true ∙ ap (λ x. take i us ++ x ∷ []) (sym c.undoing-item.is))
    ∙ ap (λ b. cond b None (placed c.args.places.now t)) (gone_more (take i us) u t)))))
