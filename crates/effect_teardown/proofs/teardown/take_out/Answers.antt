use Rattle.std.proofs.Common.{sym, subst}
use Rattle.effect_model.specs.Owners.{the_watcher}
use Rattle.effect_tables.specs.declared.thing.Thing.{Thing}
use Rattle.effect_tables.specs.Bodies.{thing_of, undoings_of}
use Rattle.effect_teardown.specs.Teardowns.{TakesOut}
use Rattle.effect_teardown.proofs.Taken.{watcher_away}
use Rattle.effect_teardown.proofs.teardown.take_out.Goals as goal

pub returns-in_ok-undoings-in-Watcher-clause-takes : goal.returns-in_ok-undoings-in-Watcher-clause-takes
returns-in_ok-undoings-in-Watcher-clause-takes c =
    subst (λ (v : Thing). TakesOut c.args.tables.now c.args.tables.now (thing_of v) (undoings_of c.in_ok-undoings-in-Watcher.undoings.items)) (sym c.in-Watcher.is)
    (subst (λ us. TakesOut c.args.tables.now c.args.tables.now (the_watcher c.in-Watcher.id) (undoings_of us)) (sym c.in_ok-undoings-in-Watcher.ensures)
    (watcher_away c.args.tables.now c.in-Watcher.id c.requires.holds c.requires.formed))
