use Rattle.std.proofs.Common.{◌≡◌, subst}
use Rattle.effect_model.specs.Owners.{Thing, the_effect, emptied, teardown_of, under}
use Rattle.effect_tables.specs.Bodies.{undoings_of}
use Rattle.sig_owner.specs.Tables.{thing_at}
use Rattle.sig_owner.specs.Trees.{owned_of}
use Rattle.sig_owner.specs.Walks.{undoings_of as store_steps}
use Rattle.effect_teardown.specs.Teardowns.{EndsIn}
use Rattle.effect_teardown.proofs.Found.{IsFound, effect_found, effect_listed, effect_unlisted}
use Rattle.effect_teardown.proofs.Taken.{taken_back}
use Rattle.effect_teardown.proofs.teardown.take_back.Goals as goal

pub returns-in_default-clause-gone : goal.returns-in_default-clause-gone
returns-in_default-clause-gone c = λ h. effect_unlisted c.args.id c.args.tables.now.effects.items c.in_default.ensures

pub take_back_in-requires : goal.take_back_in-requires
take_back_in-requires c = (effect_found c.args.tables.now.store c.args.id c.in-Some.row c.args.tables.now.effects.items c.in-Some.ensures c.requires.holds.alive.effects).lives

pub returns-clause-takes : goal.returns-clause-takes
returns-clause-takes c =
    let f : IsFound c.args.tables.now.store c.in-Some.row (the_effect c.args.id) = (effect_found c.args.tables.now.store c.args.id c.in-Some.row c.args.tables.now.effects.items c.in-Some.ensures c.requires.holds.alive.effects) in
    let back = c.in_ok-steps.ensures in
    taken_back c.args.tables.now c.finish.new.tables c.take_back_in.new.store c.in_ok-steps.steps.items (undoings_of c.in_ok-undoings.undoings.items) c.requires.holds c.requires.formed
    c.in_ok-undoings.ensures.done c.in_ok-undoings.ensures.told (the_effect c.args.id)
    (subst (λ (s : Thing). store_steps (thing_at c.args.tables.now.store) c.in_ok-steps.steps.items ≡ teardown_of s (under s (owned_of c.args.tables.now.store))) f.thing back.steps)
    (subst (λ (s : Thing). EndsIn c.args.tables.now.store c.take_back_in.new.store (store_steps (thing_at c.args.tables.now.store) c.in_ok-steps.steps.items) (emptied s (owned_of c.args.tables.now.store))) f.thing
    back.done)

pub returns-clause-there : goal.returns-clause-there
returns-clause-there c = effect_listed c.args.id c.in-Some.row c.args.tables.now.effects.items c.in-Some.ensures
