use Rattle.std.proofs.Common.{◌≡◌, ◌∙◌, ℕ, List, [], refl, map, true, sym, ap, subst}
use Rattle.effect_model.specs.Commands.{armed, changed_watcher}
use Rattle.live_cmd.specs.declared.command.Command.TheVariants as command
use Rattle.live_model.specs.Names.{number_of}
use Rattle.sig_graph.specs.States.{are_there}
use Rattle.sig_watcher.specs.Tables.{Table}
use Rattle.live_model.specs.declared.names.Kind.TheVariants as kind
use Rattle.live_model.specs.declared.names.Need.TheVariants as need
use Rattle.live_core.proofs.Rightly.{neither, refused_at, signals_used, uses_fine}
use Rattle.live_core.proofs.Commands.{acts_steps, untold}
use Rattle.live_core.proofs.Watchers.{leaves_watched}
use Rattle.live_core.proofs.machine.Machine.watch.Goals as goal

pub returns-clause-leaves : goal.returns-clause-leaves
returns-clause-leaves c = λ hosts asked count sound.
    let m = c.args.self.now in
    let e = c.in_ok-watch.ensures in
    let fine = neither (refused_at m.world m.names c.args.name.now (need.Of kind.Watcher)) _ (uses_fine m (command.Watch c.args.name.now c.args.signals.now) c.requires.fine) in
    let there = (signals_used m.world _ m.names c.args.signals.now c.requires.ready.meant fine.1).there in
    leaves_watched asked count m c.watch.new.self c.of-watcher.result (armed c.deref.result.now) c.requires.ready e.graph (ap (λ (t : Table). t.made) e.watchers) (e.does hosts asked sound).whole
    (λ a. e.agrees asked (subst (λ (ns : List ℕ). are_there m.world.graph.state.signals ns ≡ true) (sym (c.deref.ensures.value ∙ c.in_ok-signals.ensures ∙ ap (map (number_of m.names)) c.as_slice.ensures)) there) a)

pub returns-clause-steps : goal.returns-clause-steps
returns-clause-steps c = λ hosts slacks asked sound.
    let m = c.args.self.now in
    acts_steps hosts asked asked m c.watch.new.self m.labels m.journal [] [] (changed_watcher c.of-watcher.result (armed c.deref.result.now))
    (changed_watcher (number_of m.names c.args.name.now) (armed (map (number_of m.names) c.args.signals.now))) c.new.result.items refl (c.in_ok-watch.ensures.does hosts asked sound)
    (λ i. changed_watcher ((c.of-watcher.ensures ∙ c.number_of.ensures) i)
    (armed ((c.deref.ensures.value ∙ c.in_ok-signals.ensures ∙ ap (map (number_of m.names)) c.as_slice.ensures) i)))
    (untold m.labels m.journal c.new.result.items c.new.ensures.items)
