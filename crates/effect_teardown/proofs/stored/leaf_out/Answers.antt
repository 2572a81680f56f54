use Rattle.std.proofs.Common.{ap, sym, subst, ◌∙◌, ◌++◌, ◌∷◌, []}
use Rattle.effect_model.specs.Owners.{ends, taken_out, teardown_of}
use Rattle.sig_owner.specs.declared.thing.Undoing.TheVariants as undoing
use Rattle.sig_owner.specs.Tables.{thing_at, thing_of}
use Rattle.sig_owner.specs.Trees.{owned_of}
use Rattle.sig_owner.specs.Walks.{undoings_of}
use Rattle.effect_teardown.specs.Teardowns.{EndsIn}
use Rattle.effect_teardown.proofs.stored.leaf_out.Goals as goal

pub returns-clause-steps : goal.returns-clause-steps
returns-clause-steps c =
    ap (undoings_of (thing_at c.args.store.now)) (c.in_ok-push.ensures.items ∙ ap (λ us. us ++ undoing.Gone c.args.thing ∷ []) c.new-steps.ensures.items)
    ∙ ap (λ o. teardown_of (thing_of c.args.thing) o ++ ends (thing_of c.args.thing) ∷ []) (sym c.requires)

pub returns-clause-done : goal.returns-clause-done
returns-clause-done c =
    subst (λ us. EndsIn c.args.store.now c.drop_in.new.store us (taken_out (thing_of c.args.thing) (owned_of c.args.store.now)))
    (sym (ap (undoings_of (thing_at c.args.store.now)) (c.in_ok-push.ensures.items ∙ ap (λ us. us ++ undoing.Gone c.args.thing ∷ []) c.new-steps.ensures.items))) c.drop_in.ensures
