use Rattle.std.proofs.Common.{◌≡◌, IfSome, IfNone, option_copied, sym, ap, subst, ◌∙◌}
use Rattle.std.specs.Prelude.{slice_get}
use Rattle.effect_tables.specs.Bodies.{Linking, links_before, no_links}
use Rattle.effect_teardown.specs.Sites.{links_at}
use Rattle.effect_teardown.proofs.Walks.{get_none, get_some, into_links, past_linked}
use Rattle.effect_teardown.proofs.paths.+links_at.Goals as goal

pub returns-in_default-get-clause-none : goal.returns-in_default-get-clause-none
returns-in_default-get-clause-none t c =
    ap (links_at (links_before c.args.links.now no_links) 0) c.in-Some.ensures.cases.0
    ∙ past_linked c.args.links.now c.in-Some.first.now c.in-Some.rest.now (ap (λ xs. slice_get xs c.in-Some.first.now) (sym c.deref.ensures.value) ∙ get_none c.deref.result.now c.in-Some.first.now c.in_default-get.ensures.lookup.0)

pub returns-clause-some : goal.returns-clause-some
returns-clause-some t c =
    subst (λ (ls : Linking). IfSome (option_copied c.links_at.result) (λ l. ls ≡ links_before l no_links))
    (sym (ap (links_at (links_before c.args.links.now no_links) 0) c.in-Some.ensures.cases.0
    ∙ into_links c.args.links.now c.in-Some-get.inner.now c.in-Some.first.now c.in-Some.rest.now (ap (λ xs. slice_get xs c.in-Some.first.now) (sym c.deref.ensures.value) ∙ get_some c.deref.result.now c.in-Some.first.now c.in-Some-get.inner.now c.in-Some-get.ensures.lookup.0 c.in-Some-get.ensures.lookup.1)))
    c.links_at.ensures.some

pub returns-clause-none : goal.returns-clause-none
returns-clause-none t c =
    subst (λ (ls : Linking). IfNone (option_copied c.links_at.result) (ls ≡ no_links))
    (sym (ap (links_at (links_before c.args.links.now no_links) 0) c.in-Some.ensures.cases.0
    ∙ into_links c.args.links.now c.in-Some-get.inner.now c.in-Some.first.now c.in-Some.rest.now (ap (λ xs. slice_get xs c.in-Some.first.now) (sym c.deref.ensures.value) ∙ get_some c.deref.result.now c.in-Some.first.now c.in-Some-get.inner.now c.in-Some-get.ensures.lookup.0 c.in-Some-get.ensures.lookup.1)))
    c.links_at.ensures.none
