use Rattle.tpl_hearing.proofs.Names.{one_heard}
use Rattle.tpl_hearing.proofs.outcomes.settle_name.Goals as goal

pub returns-clause-after : goal.returns-clause-after
returns-clause-after g c = λ heard now all.
    let s = c.in_ok-outcome.ensures in
    one_heard _ _ _ _ heard now c.args.id c.in_ok-outcome.outcome s.settles s.value all
