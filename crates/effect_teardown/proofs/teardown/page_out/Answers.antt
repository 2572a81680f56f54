use Rattle.std.proofs.Common.{refl}
use Rattle.effect_model.specs.Owners.{the_page}
use Rattle.effect_tables.specs.Bodies.{undoings_of}
use Rattle.effect_teardown.proofs.Taken.{bare_leaf, taken_away}
use Rattle.effect_teardown.proofs.teardown.page_out.Goals as goal

pub leaf_out-requires : goal.leaf_out-requires
leaf_out-requires c = bare_leaf c.args.tables.now (the_page c.args.id) refl c.requires.formed

pub returns-clause-takes : goal.returns-clause-takes
returns-clause-takes c =
    taken_away c.args.tables.now c.finish.new.tables c.leaf_out.new.store c.in_ok-steps.steps.items (undoings_of c.in_ok-undoings.undoings.items) c.requires.holds c.requires.formed
    c.in_ok-undoings.ensures.done c.in_ok-undoings.ensures.told (the_page c.args.id) tt c.in_ok-steps.ensures.steps c.in_ok-steps.ensures.done
