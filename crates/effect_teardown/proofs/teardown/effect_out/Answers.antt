use Rattle.effect_model.specs.Owners.{the_effect}
use Rattle.effect_tables.specs.Bodies.{undoings_of}
use Rattle.effect_teardown.proofs.Found.{effect_found, effect_listed, effect_unlisted}
use Rattle.effect_teardown.proofs.Taken.{taken_away}
use Rattle.effect_teardown.proofs.teardown.effect_out.Goals as goal

pub returns-in_default-clause-gone : goal.returns-in_default-clause-gone
returns-in_default-clause-gone c = λ h. effect_unlisted c.args.id c.args.tables.now.effects.items c.in_default.ensures

pub holder_out-requires-clause-lives : goal.holder_out-requires-clause-lives
holder_out-requires-clause-lives c = (effect_found c.args.tables.now.store c.args.id c.in-Some.row c.args.tables.now.effects.items c.in-Some.ensures c.requires.holds.alive.effects).lives

pub holder_out-requires-clause-thing : goal.holder_out-requires-clause-thing
holder_out-requires-clause-thing c = (effect_found c.args.tables.now.store c.args.id c.in-Some.row c.args.tables.now.effects.items c.in-Some.ensures c.requires.holds.alive.effects).thing

pub returns-clause-takes : goal.returns-clause-takes
returns-clause-takes c =
    taken_away c.args.tables.now c.finish.new.tables c.holder_out.new.store c.in_ok-steps.steps.items (undoings_of c.in_ok-undoings.undoings.items) c.requires.holds c.requires.formed
    c.in_ok-undoings.ensures.done c.in_ok-undoings.ensures.told (the_effect c.args.id) tt c.in_ok-steps.ensures.steps c.in_ok-steps.ensures.done

pub returns-clause-there : goal.returns-clause-there
returns-clause-there c = effect_listed c.args.id c.in-Some.row c.args.tables.now.effects.items c.in-Some.ensures
