use Rattle.effect_rows.proofs.Names.{one_named, one_pushed}
use Rattle.effect_rows.proofs.runs.next.Goals as goal

pub returns : goal.returns
returns c = λ n.
    one_named c.body_of-body.result c.sets-statement.result _ _ n _ _ c.body_of-body.ensures
    (one_pushed _ _ _ c.new-statements.ensures.items c.in_ok-push.ensures.items) c.sets-statement.ensures c.in_ok-formula.ensures
