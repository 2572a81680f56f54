use Rattle.std.proofs.Common.{List, ℕ, refl, subst}
use Rattle.signal_model.specs.Sound.{names_of}
use Rattle.effect_model.specs.Bodies.{body_evaluation}
use Rattle.effect_runs.specs.Evaluations.{body_seen, IsRunOf}
use Rattle.effect_world.specs.declared.world.World.{World}
use Rattle.effect_turns.proofs.Carried.{longer, settled_runs, settled_spends}
use Rattle.effect_turns.proofs.Joined.{seen_runs}
use Rattle.effect_turns.proofs.Counted.{any_parts, shorter}
use Rattle.effect_turns.proofs.run.evaluate.Goals as goal

pub returns-clause-run : goal.returns-clause-run
returns-clause-run g c = λ hosts p all sound.
    subst (λ (ns : List ℕ). IsRunOf p (body_evaluation hosts c.args.world.now.graph.state.signals (body_seen p c.args.body.now ns)) c.in_ok-run.run') c.deref.ensures.value
    (c.in_ok-run.ensures.run hosts p all sound.kept)

pub returns-clause-done : goal.returns-clause-done
returns-clause-done g c = λ slacks p.
    let new : World = record { graph = c.evaluate_body.new.graph; watchers = c.args.world.now.watchers; tables = c.args.world.now.tables; heard = c.args.world.now.heard } in
    seen_runs slacks _ _ _ _ c.args.world.now.graph.state.signals p c.args.body.now _ _ c.deref.ensures.value
    (settled_runs slacks c.args.world.now new _ _ _ _ _ _ _ _
    (λ hosts. names_of (body_evaluation hosts c.args.world.now.graph.state.signals (body_seen p c.args.body.now c.deref.result.now)).reads)
    c.new-notes.ensures.items c.in_ok-tell_runs.ensures refl refl refl c.requires.can.agrees (c.in_ok-run.ensures.after p))

pub returns-clause-few : goal.returns-clause-few
returns-clause-few g c = shorter _ _ c.in_ok-run.run'.end c.requires.fits.few c.in_ok-run.ensures.few

pub returns-clause-spent : goal.returns-clause-spent
returns-clause-spent g c =
    let new : World = record { graph = c.evaluate_body.new.graph; watchers = c.args.world.now.watchers; tables = c.args.world.now.tables; heard = c.args.world.now.heard } in
    settled_spends c.args.world.now new _ _ _ _ _ _ _ _ _ c.new-notes.ensures.items c.in_ok-tell_runs.ensures refl (c.in_ok-run.ensures.after any_parts)

pub returns-clause-told : goal.returns-clause-told
returns-clause-told g c = longer _ _ _ c.in_ok-tell_runs.ensures
