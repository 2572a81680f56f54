use Rattle.std.proofs.Common.{◌++◌, ◌∷◌, [], sym, ap, ◌∙◌}
use Rattle.tpl_hearing.proofs.Unmoved.{stood_heard}
use Rattle.tpl_hearing.proofs.outcomes.settle_again.Goals as goal

pub returns-then-stands_as-clause-after : goal.returns-then-stands_as-clause-after
returns-then-stands_as-clause-after g c = λ heard now all.
    rw c.stands_as.ensures.same (stood_heard _ _ heard now c.args.id c.args.was.now c.requires.can.idle (c.stands_as.ensures.stands c.if-stands_as.true) all)

pub returns-then-same-clause-after : goal.returns-then-same-clause-after
returns-then-same-clause-after g c = λ heard now all.
    rw (← c.stands_as.ensures.same) (c.in_ok-outcome.ensures.after heard now
    (all ∙ ap (λ o. heard ++ (c.args.id, o) ∷ []) (sym (c.same.ensures.exact.0 c.if-same.true))))

pub returns-clause-after : goal.returns-clause-after
returns-clause-after g c = λ heard now all. rw (← c.stands_as.ensures.same) (c.in_ok-outcome.ensures.after heard now all)
