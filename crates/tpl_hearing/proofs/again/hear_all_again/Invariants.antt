use Rattle.std.proofs.Common.{◌≤◌, ◌-◌, [], is_some, map, option_map, take}
use Rattle.sig_host.specs.Hosts.{AnswersBy, IsCounted}
use Rattle.tpl_hearing.specs.Heard.{scene, CanSettle, Hears}
use Rattle.tpl_hearing.proofs.again.hear_all_again.Given as goal

-- the names so far have the outcomes of before
abbrev pub invariant-loop-place : goal.invariant-loop-place
invariant-loop-place g l = record {
  after : Hears (scene l.fn.graph (map (λ p. record { there = is_some p.host; asks = p.count }) l.fn.shelf.places.items) l.fn.notes.items)
      (scene l.graph (map (λ p. record { there = is_some p.host; asks = p.count }) l.shelf.places.items) l.notes.items)
      (λ hosts. AnswersBy hosts (map (λ p. option_map (λ h. (goal.HostFormula-dyn g (h.vtable, h.value)).step_of h.value) p.host) l.fn.shelf.places.items))
      (λ hosts. AnswersBy hosts (map (λ p. option_map (λ h. (goal.HostFormula-dyn g (h.vtable, h.value)).step_of h.value) p.host) l.shelf.places.items))
      [] (take l.place l.before);
  can : CanSettle (scene l.graph (map (λ p. record { there = is_some p.host; asks = p.count }) l.shelf.places.items) l.notes.items);
  counted : IsCounted (map (λ p. option_map (λ h. (goal.HostFormula-dyn g (h.vtable, h.value)).asks h.value) p.host) l.shelf.places.items)
      (map (λ p. record { there = is_some p.host; asks = p.count }) l.shelf.places.items);
  most : l.place ≤ l.count;
}

-- the names that are left
abbrev pub decreases-loop-place : goal.decreases-loop-place
decreases-loop-place g l = l.count - l.place
