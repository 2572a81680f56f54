use Rattle.std.proofs.Common.{◌≡◌, List, ℕ, ◌++◌, map, sym, ap, ◌∙◌, take_all}
use Rattle.std.proofs.lemmas.List.{append-nil}
use Rattle.sig_untrack.specs.declared.body.Body.TheViews.{out-Body}
use Rattle.sig_untrack.specs.Stated as stated
use Rattle.live_model.specs.Uses.{hosts_of_statements}
use Rattle.live_uses.specs.Views.{rewired_hosts}
use Rattle.live_uses.proofs.Wholes.{hosts_held, whole_hosts}
use Rattle.live_uses.proofs.hosts.+hosts_of_body.Goals as goal

pub returns : goal.returns
returns t c =
    let b = c.args.body.now in
    let all = take_all c.loop-inner.inner-index c.deref-inner-items.result.now c.loop-inner-test.false in
    let each : map (λ v. v.items) c.loop-inner.effects.items ≡ map hosts_held (out-Body b).effects.items
    = c.loop-inner.invariant ∙ ap (map hosts_held) (all ∙ c.deref-inner-items.ensures.value) in
    let written = rw (c.deref.ensures.value, c.deref-2.ensures.value, c.deref-3.ensures.value)
    at (c.in_ok-put_statements.ensures stated.no_more) in
    let effects : List (List ℕ) = map (λ v. v.items) c.loop-inner.effects.items in
    sym (append-nil _) ∙ written
    ∙ ap (λ ns. ns ++ hosts_of_statements effects (rewired_hosts (out-Body b).rewires.items) (stated.stated (out-Body b).statements.items stated.no_more)) c.new-places.ensures.items
    ∙ whole_hosts b effects each
