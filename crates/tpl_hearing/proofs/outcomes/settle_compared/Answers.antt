use Rattle.std.proofs.Common.{◌++◌, ◌∷◌, [], sym, ap, ◌∙◌}
use Rattle.std.specs.Prelude.{unwrap_or}
use Rattle.tpl_hearing.proofs.outcomes.settle_compared.Goals as goal

pub returns-in-Some-2-clause-after : goal.returns-in-Some-2-clause-after
returns-in-Some-2-clause-after g c = λ heard now all.
    c.in_ok-outcome-2.ensures.after heard now (all ∙ ap (λ o. heard ++ (c.args.id, unwrap_or o c.in-Some.was.now) ∷ []) (sym c.in-Some-2.is))

pub returns-in_ok-outcome-in-None-clause-after : goal.returns-in_ok-outcome-in-None-clause-after
returns-in_ok-outcome-in-None-clause-after g c = λ heard now all.
    c.in_ok-outcome-2.ensures.after heard now
    (all ∙ ap (λ o. heard ++ (c.args.id, o) ∷ []) c.in_ok-outcome-in-None.ensures
    ∙ ap (λ o. heard ++ (c.args.id, unwrap_or o c.in-Some.was.now) ∷ []) (sym c.in-None.is))
