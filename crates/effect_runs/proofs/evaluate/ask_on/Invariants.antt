use Rattle.std.proofs.Common.{◌+◌, is_some, length, map, option_map}
use Rattle.signal_model.specs.Values.{unknown_slots}
use Rattle.sig_host.specs.Hosts.{AnswersBy, IsCounted}
use Rattle.sig_computed.specs.Scenes.{scene, CanSettle}
use Rattle.effect_runs.proofs.Asks.{IsAsking}
use Rattle.effect_runs.proofs.evaluate.ask_on.Given as goal

abbrev pub invariant-asking : goal.invariant-asking
invariant-asking g l = record {
  asking : IsAsking (scene l.fn.graph (map (λ p. record { there = is_some p.host; asks = p.count }) l.fn.shelf.places.items) l.fn.notes.items)
      (scene l.graph (map (λ p. record { there = is_some p.host; asks = p.count }) l.shelf.places.items) l.notes.items)
      (λ hosts. AnswersBy hosts (map (λ p. option_map (λ h. (goal.HostFormula-dyn g (h.vtable, h.value)).step_of h.value) p.host) l.fn.shelf.places.items))
      (λ hosts. AnswersBy hosts (map (λ p. option_map (λ h. (goal.HostFormula-dyn g (h.vtable, h.value)).step_of h.value) p.host) l.shelf.places.items))
      l.body l.names l.reading.tracked.items l.reading.untracked.items l.reading.reads.items;
  can : CanSettle (scene l.graph (map (λ p. record { there = is_some p.host; asks = p.count }) l.shelf.places.items) l.notes.items);
  counted : IsCounted (map (λ p. option_map (λ h. (goal.HostFormula-dyn g (h.vtable, h.value)).asks h.value) p.host) l.shelf.places.items)
      (map (λ p. record { there = is_some p.host; asks = p.count }) l.shelf.places.items);
}

abbrev pub decreases-asking : goal.decreases-asking
decreases-asking g l = unknown_slots (length l.names) l.reading.tracked.items + unknown_slots (length l.names) l.reading.untracked.items
