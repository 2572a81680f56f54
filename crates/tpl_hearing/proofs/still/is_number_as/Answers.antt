use Rattle.tpl_hearing.proofs.Unmoved.{cell_as}
use Rattle.tpl_hearing.proofs.still.is_number_as.Goals as goal

pub returns-in-Some : goal.returns-in-Some
returns-in-Some c = λ e.
    cell_as c.args.graph.now.state.signals c.args.id c.in-Some.value.now c.args.was.now c.in-Some.ensures
    (c.is_number.ensures e)
