use Rattle.std.proofs.Common.{ap, sym, subst, ◌∙◌, ◌++◌, ◌∷◌, [], List}
use Rattle.std.proofs.lemmas.List.{map-append}
use Rattle.effect_model.specs.Owners.{Thing, Undoing, emptied, ends, taken_out, teardown_of, under}
use Rattle.sig_owner.specs.declared.thing.Undoing.TheVariants as undoing
use Rattle.sig_owner.specs.Tables.{thing_at, thing_of}
use Rattle.sig_owner.specs.Trees.{owned_of}
use Rattle.sig_owner.specs.Walks.{undoing_of, undoings_of}
use Rattle.sig_owner.proofs.Shared.{under_emptied}
use Rattle.effect_teardown.specs.Teardowns.{EndsIn}
use Rattle.effect_teardown.proofs.Taken.{out_done}
use Rattle.effect_teardown.proofs.stored.holder_out.Goals as goal

pub drop_in-requires : goal.drop_in-requires
drop_in-requires c =
    ap (under (thing_of c.args.thing)) (c.in_ok-steps.ensures.done.tree ∙ ap (λ t. emptied t (owned_of c.args.store.now)) c.requires.thing)
    ∙ under_emptied (thing_of c.args.thing) (owned_of c.args.store.now)

pub returns-clause-steps : goal.returns-clause-steps
returns-clause-steps c =
    ap (undoings_of (thing_at c.args.store.now)) c.in_ok-push.ensures.items
    ∙ map-append (undoing_of (thing_at c.args.store.now)) c.in_ok-steps.steps.items (undoing.Gone c.args.thing ∷ [])
    ∙ ap (λ us. us ++ ends (thing_of c.args.thing) ∷ []) (c.in_ok-steps.ensures.steps ∙ ap (λ t. teardown_of t (under t (owned_of c.args.store.now))) c.requires.thing)

pub returns-clause-done : goal.returns-clause-done
returns-clause-done c =
    let us : List Undoing = undoings_of (thing_at c.args.store.now) c.in_ok-steps.steps.items in
    subst (λ vs. EndsIn c.args.store.now c.drop_in.new.store vs (taken_out (thing_of c.args.thing) (owned_of c.args.store.now)))
    (sym (ap (undoings_of (thing_at c.args.store.now)) c.in_ok-push.ensures.items
    ∙ map-append (undoing_of (thing_at c.args.store.now)) c.in_ok-steps.steps.items (undoing.Gone c.args.thing ∷ [])))
    (out_done c.args.store.now c.take_back_in.new.store c.drop_in.new.store (thing_of c.args.thing) us
    (subst (λ (t : Thing). EndsIn c.args.store.now c.take_back_in.new.store us (emptied t (owned_of c.args.store.now))) c.requires.thing c.in_ok-steps.ensures.done) c.drop_in.ensures)
