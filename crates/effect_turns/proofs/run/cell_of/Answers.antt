use Rattle.std.proofs.Common.{List, ℕ, subst}
use Rattle.std.specs.Prelude.{IfSome}
use Rattle.effect_runs.specs.Evaluations.{LogsCell}
use Rattle.effect_turns.proofs.run.cell_of.Goals as goal

pub returns : goal.returns
returns c =
    subst (λ (ns : List ℕ). IfSome c.in_ok-cell.cell (LogsCell c.args.world.now.graph.state.signals c.args.body.now ns)) c.deref.ensures.value c.in_ok-cell.ensures
