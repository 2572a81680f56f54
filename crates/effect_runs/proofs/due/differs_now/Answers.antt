use Rattle.std.proofs.Common.{subst, sym, ap, ◌∙◌, not}
use Rattle.std.specs.Prelude.{IfSome}
use Rattle.effect_runs.specs.Evaluations.{IsToldOf}
use Rattle.effect_runs.proofs.Cells.{cell_differs, cell_settled}
use Rattle.effect_runs.proofs.due.differs_now.Goals as goal

pub returns-in-Some-clause-differs : goal.returns-in-Some-clause-differs
returns-in-Some-clause-differs g c = λ hosts all kept.
    cell_differs hosts _ _ _ (subst (λ o. IfSome o (IsToldOf c.args.graph.now.state.signals c.args.read.now)) c.in-Some.is c.cell_still.ensures)

pub returns-in-Some-clause-settles : goal.returns-in-Some-clause-settles
returns-in-Some-clause-settles g c =
    let told = subst (λ o. IfSome o (IsToldOf c.args.graph.now.state.signals c.args.read.now)) c.in-Some.is c.cell_still.ensures in
    cell_settled _ _ _ told.value c.requires.can.idle told.stands
