use Rattle.std.proofs.Common.{[], refl, ap, ◌∙◌}
use Rattle.effect_model.specs.Acts.{forget}
use Rattle.effect_model.specs.Commands.{changed_watcher}
use Rattle.sig_watcher.specs.Tables.{Table}
use Rattle.live_model.specs.Names.{number_of}
use Rattle.live_core.proofs.Commands.{acts_steps, untold}
use Rattle.live_core.proofs.Watchers.{leaves_watched}
use Rattle.live_core.proofs.machine.Machine.unwatch.Goals as goal

pub returns-clause-leaves : goal.returns-clause-leaves
returns-clause-leaves c = λ hosts asked count sound.
    let e = c.in_ok-unwatch.ensures in
    leaves_watched asked count c.args.self.now c.unwatch.new.self c.of-watcher.result (forget c.of-signal.result) c.requires.ready e.graph (ap (λ (t : Table). t.made) e.watchers)
    (e.does hosts asked sound).whole (λ a. e.agrees asked a)

pub returns-clause-steps : goal.returns-clause-steps
returns-clause-steps c = λ hosts slacks asked sound.
    let m = c.args.self.now in
    acts_steps hosts asked asked m c.unwatch.new.self m.labels m.journal [] [] (changed_watcher c.of-watcher.result (forget c.of-signal.result))
    (changed_watcher (number_of m.names c.args.name.now) (forget (number_of m.names c.args.signal.now))) c.new.result.items refl (c.in_ok-unwatch.ensures.does hosts asked sound)
    (λ i. changed_watcher ((c.of-watcher.ensures ∙ c.number_of.ensures) i) (forget ((c.of-signal.ensures ∙ c.number_of-2.ensures) i)))
    (untold m.labels m.journal c.new.result.items c.new.ensures.items)
