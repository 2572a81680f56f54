use Rattle.std.proofs.Common.{[], ap, refl, sym, ◌∙◌}
use Rattle.signal_model.specs.Values.{value_of}
use Rattle.effect_tables.specs.Visits.{due_of}
use Rattle.effect_world.specs.declared.world.World.{World}
use Rattle.effect_turns.proofs.Glanced.{glance_none, glance_some}
use Rattle.effect_turns.proofs.glance.glance.Goals as goal

pub returns-in_default-clause-done : goal.returns-in_default-clause-done
returns-in_default-clause-done g c = λ slacks. glance_none slacks _ _ c.args.id c.requires.can.agrees c.in_default.ensures.none

pub returns-clause-due : goal.returns-clause-due
returns-clause-due g c = λ hosts slacks all sound.
    c.in_ok-due.ensures.due hosts all sound.kept
    ∙ ap (due_of (λ m. value_of hosts c.args.world.now.graph.state.signals m []))
    (sym c.in-Some.ensures.some)

pub returns-clause-done : goal.returns-clause-done
returns-clause-done g c = λ slacks.
    let new : World = record { graph = c.look_at.new.graph; watchers = c.args.world.now.watchers; tables = c.args.world.now.tables; heard = c.args.world.now.heard } in
    glance_some slacks c.args.world.now new _ _ _ _ _ _ _ _ c.args.id c.in-Some.effect.now c.in-Some.ensures.some c.new-notes.ensures.items
    c.in_ok-tell_runs.ensures refl refl refl c.requires.can.agrees c.in_ok-due.ensures.after
