use Rattle.sig_owner.specs.Tables.{thing_at}
use Rattle.sig_owner.specs.Walks.{undoings_of}
use Rattle.effect_teardown.proofs.Taken.{back_done}
use Rattle.effect_teardown.proofs.stored.take_back_in.Goals as goal

pub returns-in-Ok-clause-done : goal.returns-in-Ok-clause-done
returns-in-Ok-clause-done c =
    back_done c.args.store.now c.take_back.new.self c.args.row (undoings_of (thing_at c.args.store.now) c.in-Ok.steps.items) c.in-Ok.ensures.after c.in-Ok.ensures.tree c.in-Ok.ensures.lives c.in-Ok.ensures.nowhere
