use Rattle.std.proofs.Common.{subst}
use Rattle.effect_model.specs.Owners.{the_owner}
use Rattle.effect_tables.specs.Bodies.{undoings_of}
use Rattle.effect_teardown.specs.Teardowns.{TakesOut}
use Rattle.effect_teardown.proofs.Found.{IsOwnerFound, owner_found, owner_gone}
use Rattle.effect_teardown.proofs.Taken.{taken_away}
use Rattle.effect_teardown.proofs.teardown.owner_out.Goals as goal

pub returns-in_default-clause-gone : goal.returns-in_default-clause-gone
returns-in_default-clause-gone c = λ h. owner_gone c.args.tables.now c.args.id c.in_default.ensures

pub holder_out-requires-clause-lives : goal.holder_out-requires-clause-lives
holder_out-requires-clause-lives c = (owner_found c.args.tables.now c.args.id c.in-Some.row c.requires.holds c.in-Some.ensures).found.lives

pub holder_out-requires-clause-thing : goal.holder_out-requires-clause-thing
holder_out-requires-clause-thing c = (owner_found c.args.tables.now c.args.id c.in-Some.row c.requires.holds c.in-Some.ensures).found.thing

pub returns-clause-takes : goal.returns-clause-takes
returns-clause-takes c =
    let f : IsOwnerFound c.args.tables.now c.args.id c.in-Some.row = (owner_found c.args.tables.now c.args.id c.in-Some.row c.requires.holds c.in-Some.ensures) in
    subst (λ s. TakesOut c.args.tables.now c.finish.new.tables s (undoings_of c.in_ok-undoings.undoings.items)) f.number
    (taken_away c.args.tables.now c.finish.new.tables c.holder_out.new.store c.in_ok-steps.steps.items (undoings_of c.in_ok-undoings.undoings.items) c.requires.holds c.requires.formed
    c.in_ok-undoings.ensures.done c.in_ok-undoings.ensures.told (the_owner c.in-Some.row) (f.listed, f.found.lives) c.in_ok-steps.ensures.steps c.in_ok-steps.ensures.done)

pub returns-clause-there : goal.returns-clause-there
returns-clause-there c = (owner_found c.args.tables.now c.args.id c.in-Some.row c.requires.holds c.in-Some.ensures).on
