use Rattle.std.proofs.Common.{sym, subst, ap, take, ◌∷◌, [], ◌++◌, arith, ◌∙◌}
use Rattle.std.specs.List.{AllByRecursion}
use Rattle.std.proofs.lemmas.List.{take_all, take_more}
use Rattle.signal_laws.proofs.Shared.{all_snoc}
use Rattle.tpl_hearing.specs.Heard.{HasRows}
use Rattle.tpl_hearing.proofs.outcomes.find_all.Goals as goal

pub loop-outcome-init : goal.loop-outcome-init
loop-outcome-init c = tt

pub loop-outcome-preserved : goal.loop-outcome-preserved
loop-outcome-preserved c =
    let os = c.args.outcomes.now in
    let i = c.loop-outcome.outcome-index in
    subst (AllByRecursion HasRows)
    (sym (take_more os i c.outcome-item.result c.loop-outcome-test.true ∙ ap (λ o. take i os ++ o ∷ []) (sym c.outcome-item.is)))
    (all_snoc HasRows (take i os) c.outcome-item.result c.loop-outcome.invariant c.find_rows.ensures)

pub returns : goal.returns
returns c =
    let low = c.loop-outcome-test.false in
    subst (AllByRecursion HasRows) (take_all c.loop-outcome.outcome-index c.args.outcomes.now (omega (arith, low))) c.loop-outcome.invariant
