use Rattle.std.proofs.Common.{◌≡◌, IfSome, IfNone, option_copied, sym, ap, subst, ◌∙◌}
use Rattle.std.specs.Prelude.{slice_get}
use Rattle.sig_untrack.specs.Stated.{Bodies, before, no_bodies}
use Rattle.effect_teardown.specs.Sites.{body_at}
use Rattle.effect_teardown.proofs.Walks.{get_none, get_some, into_body, past_body}
use Rattle.effect_teardown.proofs.paths.+body_at.Goals as goal

pub returns-in_default-get-clause-none : goal.returns-in_default-get-clause-none
returns-in_default-get-clause-none t c =
    ap (body_at (before c.args.body.now no_bodies) 0) c.in-Some.ensures.cases.0
    ∙ past_body c.args.body.now c.in-Some.first.now c.in-Some.rest.now (ap (λ xs. slice_get xs c.in-Some.first.now) (sym c.deref.ensures.value) ∙ get_none c.deref.result.now c.in-Some.first.now c.in_default-get.ensures.lookup.0)

pub returns-clause-some : goal.returns-clause-some
returns-clause-some t c =
    subst (λ (bs : Bodies). IfSome (option_copied c.body_at.result) (λ b. bs ≡ before b no_bodies))
    (sym (ap (body_at (before c.args.body.now no_bodies) 0) c.in-Some.ensures.cases.0
    ∙ into_body c.args.body.now c.in-Some-get.inner.now c.in-Some.first.now c.in-Some.rest.now (ap (λ xs. slice_get xs c.in-Some.first.now) (sym c.deref.ensures.value) ∙ get_some c.deref.result.now c.in-Some.first.now c.in-Some-get.inner.now c.in-Some-get.ensures.lookup.0 c.in-Some-get.ensures.lookup.1)))
    c.body_at.ensures.some

pub returns-clause-none : goal.returns-clause-none
returns-clause-none t c =
    subst (λ (bs : Bodies). IfNone (option_copied c.body_at.result) (bs ≡ no_bodies))
    (sym (ap (body_at (before c.args.body.now no_bodies) 0) c.in-Some.ensures.cases.0
    ∙ into_body c.args.body.now c.in-Some-get.inner.now c.in-Some.first.now c.in-Some.rest.now (ap (λ xs. slice_get xs c.in-Some.first.now) (sym c.deref.ensures.value) ∙ get_some c.deref.result.now c.in-Some.first.now c.in-Some-get.inner.now c.in-Some-get.ensures.lookup.0 c.in-Some-get.ensures.lookup.1)))
    c.body_at.ensures.none
