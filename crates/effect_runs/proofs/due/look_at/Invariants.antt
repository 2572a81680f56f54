use Rattle.std.proofs.Common.{is_some, map, option_map, take}
use Rattle.sig_host.specs.Hosts.{AnswersBy, IsCounted}
use Rattle.sig_computed.specs.Scenes.{scene, CanSettle}
use Rattle.effect_runs.proofs.Asks.{IsRead}
use Rattle.effect_runs.proofs.due.look_at.Given as goal

-- the signals so far have the outcomes that were read
abbrev pub invariant-loop-read : goal.invariant-loop-read
invariant-loop-read g l = record {
  read : IsRead (scene l.fn.graph (map (λ p. record { there = is_some p.host; asks = p.count }) l.fn.shelf.places.items) l.fn.notes.items)
      (scene l.graph (map (λ p. record { there = is_some p.host; asks = p.count }) l.shelf.places.items) l.notes.items)
      (λ hosts. AnswersBy hosts (map (λ p. option_map (λ h. (goal.HostFormula-dyn g (h.vtable, h.value)).step_of h.value) p.host) l.fn.shelf.places.items))
      (λ hosts. AnswersBy hosts (map (λ p. option_map (λ h. (goal.HostFormula-dyn g (h.vtable, h.value)).step_of h.value) p.host) l.shelf.places.items))
      (take l.read-index l.reads);
  can : CanSettle (scene l.graph (map (λ p. record { there = is_some p.host; asks = p.count }) l.shelf.places.items) l.notes.items);
  counted : IsCounted (map (λ p. option_map (λ h. (goal.HostFormula-dyn g (h.vtable, h.value)).asks h.value) p.host) l.shelf.places.items)
      (map (λ p. record { there = is_some p.host; asks = p.count }) l.shelf.places.items);
}
