use Rattle.std.proofs.Common.{refl, ap, sym, ◌∙◌, arith}
use Rattle.std.specs.Prelude.{slice_get}
use Rattle.std.specs.Rc.{rc_value}
use Rattle.sig_base.specs.Values.{scalar_value}
use Rattle.effect_model.specs.Acts.{dispose_thing, set_cell}
use Rattle.effect_model.specs.Bodies.{to_make, to_note}
use Rattle.effect_model.specs.Owners.{logs, sets}
use Rattle.effect_model.specs.Runs.{do_act}
use Rattle.effect_model.specs.Worlds.{logged, tell}
use Rattle.sig_untrack.specs.Links.{act_of}
use Rattle.effect_tables.specs.declared.links.Links.TheViews.{out-Links}
use Rattle.effect_tables.specs.Bodies.{signal_number, target_thing, thing_of}
use Rattle.effect_teardown.specs.Sites.{parts_of}
use Rattle.effect_acts.specs.Rewires.{rewire_meant}
use Rattle.effect_acts.proofs.Acts.{acted_as, acted_lent}
use Rattle.effect_acts.proofs.Meant.{cell_meant, thing_meant}
use Rattle.effect_acts.proofs.act.do_act.Goals as goal

pub returns-in_ok-set-in-Set-clause-done : goal.returns-in_ok-set-in-Set-clause-done
returns-in_ok-set-in-Set-clause-done g c =
    let p = parts_of c.args.site.now.origin (rc_value c.args.site.now.script) c.args.site.now.path.items in
    let n = signal_number (target_thing c.args.site.now.origin (slice_get c.deref.result.now c.in-Set.target)) in
    let v = scalar_value c.in-Set.scalar in
    acted_as _ _ _ _ 1 1 (λ env. set_cell env n v) (λ env. do_act env c.args.id c.args.label (act_of p c.args.act.now))
    (λ env. ap (λ m. set_cell env m v) (cell_meant (rc_value c.args.site.now.script) c.args.site.now.path.items c.args.body.now c.args.links.now c.requires.part c.args.site.now.origin c.in-Set.target n
    (ap (λ xs. signal_number (target_thing c.args.site.now.origin (slice_get xs c.in-Set.target))) c.deref.ensures.value)) ∙ ap (λ a. do_act env c.args.id c.args.label (act_of p a)) (sym c.in-Set.is))
    (omega arith) (c.in_ok-set-in-Set.ensures.done _ c.requires.agrees)

pub returns-in_ok-log-in-Log-clause-done : goal.returns-in_ok-log-in-Log-clause-done
returns-in_ok-log-in-Log-clause-done g c =
    let p = parts_of c.args.site.now.origin (rc_value c.args.site.now.script) c.args.site.now.path.items in
    acted_as _ _ _ _ 0 1 (λ env. tell (logged c.in-Log.value)) (λ env. do_act env c.args.id c.args.label (act_of p c.args.act.now)) (λ env. ap (λ a. do_act env c.args.id c.args.label (act_of p a)) (sym c.in-Log.is))
    (omega arith) (c.in_ok-log-in-Log.ensures _ _ c.requires.agrees)

pub returns-in_ok-note_set-in-CleanupSet-clause-done : goal.returns-in_ok-note_set-in-CleanupSet-clause-done
returns-in_ok-note_set-in-CleanupSet-clause-done g c =
    let p = parts_of c.args.site.now.origin (rc_value c.args.site.now.script) c.args.site.now.path.items in
    let n = signal_number (target_thing c.args.site.now.origin (slice_get (out-Links c.args.links.now).targets.items c.in-CleanupSet.target)) in
    let v = scalar_value c.in-CleanupSet.scalar in
    acted_as _ _ _ _ 0 1 (λ env. do_act env c.args.id 0 (to_note (sets n v))) (λ env. do_act env c.args.id c.args.label (act_of p c.args.act.now))
    (λ env. ap (λ m. do_act env c.args.id 0 (to_note (sets m v))) (cell_meant (rc_value c.args.site.now.script) c.args.site.now.path.items c.args.body.now c.args.links.now c.requires.part c.args.site.now.origin c.in-CleanupSet.target n refl)
    ∙ ap (λ a. do_act env c.args.id c.args.label (act_of p a)) (sym c.in-CleanupSet.is))
    (omega arith) (c.in_ok-note_set-in-CleanupSet.ensures _ _ c.requires.agrees)

pub returns-in_ok-note_log-in-CleanupLog-clause-done : goal.returns-in_ok-note_log-in-CleanupLog-clause-done
returns-in_ok-note_log-in-CleanupLog-clause-done g c =
    let p = parts_of c.args.site.now.origin (rc_value c.args.site.now.script) c.args.site.now.path.items in
    acted_as _ _ _ _ 0 1 (λ env. do_act env c.args.id 0 (to_note (logs c.in-CleanupLog.value))) (λ env. do_act env c.args.id c.args.label (act_of p c.args.act.now))
    (λ env. ap (λ a. do_act env c.args.id c.args.label (act_of p a)) (sym c.in-CleanupLog.is)) (omega arith) (c.in_ok-note_log-in-CleanupLog.ensures _ _ c.requires.agrees)

pub returns-in_ok-make_there-in-Effect-clause-done : goal.returns-in_ok-make_there-in-Effect-clause-done
returns-in_ok-make_there-in-Effect-clause-done g c =
    let p = parts_of c.args.site.now.origin (rc_value c.args.site.now.script) c.args.site.now.path.items in
    acted_as _ _ _ _ 0 1 (λ env. do_act env c.args.id c.args.label (to_make (p.bodies c.in-Effect.place))) (λ env. do_act env c.args.id c.args.label (act_of p c.args.act.now))
    (λ env. ap (λ a. do_act env c.args.id c.args.label (act_of p a)) (sym c.in-Effect.is)) (omega arith) (c.in_ok-make_there-in-Effect.ensures _ _ c.requires.agrees)

pub returns-in_ok-dispose-in-Dispose-clause-done : goal.returns-in_ok-dispose-in-Dispose-clause-done
returns-in_ok-dispose-in-Dispose-clause-done g c =
    let p = parts_of c.args.site.now.origin (rc_value c.args.site.now.script) c.args.site.now.path.items in
    acted_lent _ _ _ _ _ 0 1 (λ env. dispose_thing env (thing_of c.thing_at-thing.result)) (λ env. do_act env c.args.id c.args.label (act_of p c.args.act.now))
    (λ env. (λ i. dispose_thing env (thing_meant (rc_value c.args.site.now.script) c.args.site.now.path.items c.args.body.now c.args.links.now c.requires.part c.args.site.now.origin c.in-Dispose.target (thing_of c.thing_at-thing.result)
    (c.thing_at-thing.ensures ∙ ap (λ xs. target_thing c.args.site.now.origin (slice_get xs c.in-Dispose.target)) c.deref-in-Dispose.ensures.value) i))
    ∙ ap (λ a. do_act env c.args.id c.args.label (act_of p a)) (sym c.in-Dispose.is))
    (omega arith) c.in_ok-dispose-in-Dispose.ensures.done

pub returns-in_ok-rewire_at-in-Rewire-clause-done : goal.returns-in_ok-rewire_at-in-Rewire-clause-done
returns-in_ok-rewire_at-in-Rewire-clause-done g c =
    let p = parts_of c.args.site.now.origin (rc_value c.args.site.now.script) c.args.site.now.path.items in
    acted_lent _ _ _ _ _ 1 1 (λ env. rewire_meant (p.rewirings c.in-Rewire.place)) (λ env. do_act env c.args.id c.args.label (act_of p c.args.act.now))
    (λ env. ap (λ a. do_act env c.args.id c.args.label (act_of p a)) (sym c.in-Rewire.is)) (omega arith) (c.in_ok-rewire_at-in-Rewire.ensures.done _)
