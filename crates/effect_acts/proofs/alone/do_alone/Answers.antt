use Rattle.std.proofs.Common.{ap, sym, ◌∙◌, arith}
use Rattle.std.specs.Prelude.{slice_get}
use Rattle.sig_base.specs.Values.{scalar_value}
use Rattle.effect_model.specs.Acts.{set_cell}
use Rattle.effect_model.specs.Alone.{act_alone}
use Rattle.effect_model.specs.Worlds.{logged, tell}
use Rattle.effect_tables.specs.Bodies.{signal_number, target_thing}
use Rattle.effect_world.specs.Signals.{any_hosts}
use Rattle.effect_world.specs.Wholes.{whole_of}
use Rattle.sig_untrack.specs.Links.{act_of}
use Rattle.effect_acts.proofs.Acts.{acted_as, acted_still}
use Rattle.effect_acts.proofs.alone.do_alone.Goals as goal

pub returns-in_ok-set-in-Set-clause-done : goal.returns-in_ok-set-in-Set-clause-done
returns-in_ok-set-in-Set-clause-done g c = λ asked p agrees cells.
    let v = scalar_value c.in-Set.scalar in
    acted_as _ _ _ _ 1 1 (λ env. set_cell env (signal_number (target_thing c.of.result (slice_get c.args.targets.now c.in-Set.target))) v) (λ env. act_alone env (act_of p c.args.act.now))
    (λ env. ap (λ n. set_cell env n v) (ap (λ origin. signal_number (target_thing origin (slice_get c.args.targets.now c.in-Set.target))) c.of.ensures ∙ sym (cells c.in-Set.target))
    ∙ ap (λ a. act_alone env (act_of p a)) (sym c.in-Set.is))
    (omega arith) (c.in_ok-set-in-Set.ensures.done asked agrees)

pub returns-in_ok-set-in-Set-clause-tables : goal.returns-in_ok-set-in-Set-clause-tables
returns-in_ok-set-in-Set-clause-tables g c = c.in_ok-set-in-Set.ensures.tables

pub returns-in_ok-log-in-Log-clause-done : goal.returns-in_ok-log-in-Log-clause-done
returns-in_ok-log-in-Log-clause-done g c = λ asked p agrees cells.
    acted_as _ _ _ _ 0 1 (λ env. tell (logged c.in-Log.value)) (λ env. act_alone env (act_of p c.args.act.now)) (λ env. ap (λ a. act_alone env (act_of p a)) (sym c.in-Log.is)) (omega arith) (c.in_ok-log-in-Log.ensures asked _ agrees)

pub returns-in-CleanupSet-clause-done : goal.returns-in-CleanupSet-clause-done
returns-in-CleanupSet-clause-done g c = λ asked p agrees cells.
    acted_still _ _ asked _ any_hosts 1 (λ env. act_alone env (act_of p c.args.act.now)) (λ env. ap (λ a. act_alone env (act_of p a) (whole_of asked c.args.world.now)) c.in-CleanupSet.is) agrees

pub returns-in-CleanupLog-clause-done : goal.returns-in-CleanupLog-clause-done
returns-in-CleanupLog-clause-done g c = λ asked p agrees cells.
    acted_still _ _ asked _ any_hosts 1 (λ env. act_alone env (act_of p c.args.act.now)) (λ env. ap (λ a. act_alone env (act_of p a) (whole_of asked c.args.world.now)) c.in-CleanupLog.is) agrees

pub returns-in-Effect-clause-done : goal.returns-in-Effect-clause-done
returns-in-Effect-clause-done g c = λ asked p agrees cells.
    acted_still _ _ asked _ any_hosts 1 (λ env. act_alone env (act_of p c.args.act.now)) (λ env. ap (λ a. act_alone env (act_of p a) (whole_of asked c.args.world.now)) c.in-Effect.is) agrees

pub returns-in-Dispose-clause-done : goal.returns-in-Dispose-clause-done
returns-in-Dispose-clause-done g c = λ asked p agrees cells.
    acted_still _ _ asked _ any_hosts 1 (λ env. act_alone env (act_of p c.args.act.now)) (λ env. ap (λ a. act_alone env (act_of p a) (whole_of asked c.args.world.now)) c.in-Dispose.is) agrees

pub returns-in-Rewire-clause-done : goal.returns-in-Rewire-clause-done
returns-in-Rewire-clause-done g c = λ asked p agrees cells.
    acted_still _ _ asked _ any_hosts 1 (λ env. act_alone env (act_of p c.args.act.now)) (λ env. ap (λ a. act_alone env (act_of p a) (whole_of asked c.args.world.now)) c.in-Rewire.is) agrees
