use Rattle.std.proofs.Common.{◌≡◌, List, ◌++◌, map, sym, ap, ◌∙◌, take_all}
use Rattle.std.proofs.lemmas.List.{append-nil}
use Rattle.sig_untrack.specs.declared.body.Body.TheViews.{out-Body}
use Rattle.sig_untrack.specs.Stated as stated
use Rattle.live_model.specs.Names.{Use}
use Rattle.live_model.specs.Uses.{uses_of_statements}
use Rattle.live_uses.specs.Views.{use_of}
use Rattle.live_uses.proofs.Wholes.{places_of, used_by, whole_uses}
use Rattle.live_uses.proofs.bodies.+uses_of_body.Goals as goal

pub returns : goal.returns
returns t c =
    let b = c.args.body.now in
    let all = take_all c.loop-inner.inner-index c.deref-inner-items.result.now c.loop-inner-test.false in
    let each : map (λ v. map use_of v.items) c.loop-inner.effects.items ≡ map used_by (out-Body b).effects.items
    = c.loop-inner.invariant ∙ ap (map used_by) (all ∙ c.deref-inner-items.ensures.value) in
    let written = rw (c.deref.ensures.value, c.deref-2.ensures.value, c.deref-3.ensures.value, c.deref-4.ensures.value, c.deref-5.ensures.value)
    at (c.in_ok-put_statements.ensures stated.no_more) in
    let effects : List (List Use) = map (λ v. map use_of v.items) c.loop-inner.effects.items in
    sym (append-nil _) ∙ written
    ∙ ap (λ us. map use_of us ++ uses_of_statements (places_of b effects) (stated.stated (out-Body b).statements.items stated.no_more)) c.new-uses.ensures.items
    ∙ whole_uses b effects each
