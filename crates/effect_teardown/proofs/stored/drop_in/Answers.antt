use Rattle.sig_owner.specs.Tables.{thing_of}
use Rattle.effect_teardown.proofs.Taken.{drop_done}
use Rattle.effect_teardown.proofs.stored.drop_in.Goals as goal

pub drop_thing-requires : goal.drop_thing-requires
drop_thing-requires c = λ k. c.requires

pub returns : goal.returns
returns c = drop_done c.args.store.now c.drop_thing.new.self (thing_of c.args.thing.now) c.drop_thing.ensures.after c.drop_thing.ensures.tree c.drop_thing.ensures.nowhere
