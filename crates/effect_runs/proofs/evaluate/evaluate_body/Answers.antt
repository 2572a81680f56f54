use Rattle.std.proofs.Common.{subst}
use Rattle.std.specs.Prelude.{IfSome}
use Rattle.effect_runs.specs.Evaluations.{HasLogged}
use Rattle.effect_runs.proofs.Logged.{log_few, log_run, log_settled}
use Rattle.effect_runs.proofs.evaluate.evaluate_body.Goals as goal

pub returns-in-Some-clause-run : goal.returns-in-Some-clause-run
returns-in-Some-clause-run g c = λ hosts p all kept.
    log_run _ _ _ _ (subst (λ o. IfSome o (HasLogged c.args.graph.now.state.signals c.args.body.now c.args.names.now)) c.in-Some.is c.in_ok-at_once.ensures) hosts p

pub returns-in-Some-clause-after : goal.returns-in-Some-clause-after
returns-in-Some-clause-after g c = λ p.
    log_settled _ _ _ _ _ c.requires.can.idle
    (subst (λ o. IfSome o (HasLogged c.args.graph.now.state.signals c.args.body.now c.args.names.now)) c.in-Some.is c.in_ok-at_once.ensures) p

pub returns-in-Some-clause-few : goal.returns-in-Some-clause-few
returns-in-Some-clause-few g c =
    log_few _ _ _ _ (subst (λ o. IfSome o (HasLogged c.args.graph.now.state.signals c.args.body.now c.args.names.now)) c.in-Some.is c.in_ok-at_once.ensures)
