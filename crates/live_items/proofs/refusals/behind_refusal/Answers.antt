use Rattle.std.proofs.Common.{◌∙◌, List, is_some, map, sym}
use Rattle.sig_host.specs.Hosts.{HostPlace}
use Rattle.live_items.proofs.Refused.{fourth_of, second_of, third_of_four}
use Rattle.live_items.proofs.refusals.behind_refusal.Goals as goal

pub returns-in-Some-2 : goal.returns-in-Some-2
returns-in-Some-2 g c =
    let asked : List HostPlace = map (λ p. record { there = is_some p.host; asks = p.count }) c.args.shelf.now.places.items in
    second_of _ _ _ c.in-Some-2.refusal (sym c.in_ok-refusal.ensures ∙ c.in_default.is) (sym c.in-Some-2.is ∙ c.in_ok-refusal-2.ensures asked)

pub returns-in-Some-over_limit : goal.returns-in-Some-over_limit
returns-in-Some-over_limit g c =
    let asked : List HostPlace = map (λ p. record { there = is_some p.host; asks = p.count }) c.args.shelf.now.places.items in
    third_of_four _ _ _ _ c.in-Some-over_limit.refusal (sym c.in_ok-refusal.ensures ∙ c.in_default.is) (sym (c.in_ok-refusal-2.ensures asked) ∙ c.in_default-2.is)
    (sym c.in-Some-over_limit.is ∙ c.over_limit.ensures asked)

pub returns : goal.returns
returns g c =
    let asked : List HostPlace = map (λ p. record { there = is_some p.host; asks = p.count }) c.args.shelf.now.places.items in
    fourth_of _ _ _ _ c.in_ok-refusal-3.refusal (sym c.in_ok-refusal.ensures ∙ c.in_default.is) (sym (c.in_ok-refusal-2.ensures asked) ∙ c.in_default-2.is)
    (sym (c.over_limit.ensures asked) ∙ c.in_default-over_limit.is) (c.in_ok-refusal-3.ensures asked)
