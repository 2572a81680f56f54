use Rattle.std.proofs.Common.{◌∙◌, ◌∷◌, [], ◌++◌, Bool, ap, arith}
use Rattle.effect_model.specs.Commands.{with_new_watcher}
use Rattle.effect_model.specs.Worlds.{at_rest}
use Rattle.effect_world.specs.Wholes.{whole_of}
use Rattle.live_model.specs.declared.names.Kind.TheVariants as kind
use Rattle.live_model.specs.Machine.{is_trying}
use Rattle.live_labels.specs.Views.{labels_of}
use Rattle.live_core.proofs.Commands.{trying}
use Rattle.live_core.proofs.Creations.{steps_named}
use Rattle.live_core.proofs.Watchers.{leaves_watcher}
use Rattle.live_core.proofs.machine.Machine.make_watcher.Goals as goal

pub returns-clause-steps : goal.returns-clause-steps
returns-clause-steps c = λ hosts slacks asked sound.
    let m = c.args.self.now in
    let e = c.in_ok-watcher.ensures in
    let n = c.in_ok-name_watcher.ensures in
    let d = e.does hosts asked sound in
    steps_named hosts asked m c.name_watcher.new.self c.make_watcher.new.self c.args.name kind.Watcher c.in_ok-watcher.watcher m.world.watchers.made
    (record (labels_of m.labels) { watchers = m.labels.watchers.items ++ c.args.name ∷ [] })
    (with_new_watcher (is_trying c.args.tries) (whole_of asked m.world)) c.new.result.items e.made.0
    (d.whole ∙ ap (λ (b : Bool). at_rest (with_new_watcher b (whole_of asked m.world))) (c.is_some.ensures ∙ trying c.args.tries))
    (record { names = n.names; labels = n.labels; parts = n.parts }) c.new.ensures.items d.sound

pub returns-clause-leaves : goal.returns-clause-leaves
returns-clause-leaves c = λ hosts asked rules sound.
    let m = c.args.self.now in
    let e = c.in_ok-watcher.ensures in
    let n = c.in_ok-name_watcher.ensures in
    let whole = (e.does hosts asked sound).whole in
    leaves_watcher asked rules m c.name_watcher.new.self c.make_watcher.new.self c.args.name c.in_ok-watcher.watcher c.requires.ready
    (record { names = n.names; labels = n.labels; parts = n.parts })
    e.graph (ap (λ t. t.made) e.made.1)
    (ap (λ x. x.pages) whole) (ap (λ x. x.made.pages) whole) (ap (λ x. x.made.effects) whole)
    (e.agrees asked)
