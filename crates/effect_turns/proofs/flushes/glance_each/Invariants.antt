use Rattle.std.proofs.Common.{ℕ, List, is_some, map, option_map, take}
use Rattle.sig_host.specs.Hosts.{AnswersBy, IsCounted}
use Rattle.effect_tables.specs.Visits.{glance_all}
use Rattle.effect_world.specs.Signals.{scene}
use Rattle.effect_turns.specs.Runs.{Runs, Spends}
use Rattle.effect_turns.proofs.Loops.{IsLeft}
use Rattle.effect_turns.proofs.flushes.glance_each.Given as goal

-- the effects so far are looked at, and none of them is due
abbrev pub invariant-loop-id : goal.invariant-loop-id
invariant-loop-id g l = record {
  done : (slacks : List ℕ) → Runs slacks
      (scene l.fn.world (map (λ p. record { there = is_some p.host; asks = p.count }) l.fn.shelf.places.items) l.fn.events.items)
      (scene l.world (map (λ p. record { there = is_some p.host; asks = p.count }) l.shelf.places.items) l.events.items)
      (λ hosts. AnswersBy hosts (map (λ p. option_map (λ h. (goal.HostFormula-dyn g (h.vtable, h.value)).step_of h.value) p.host) l.fn.shelf.places.items))
      (λ hosts. AnswersBy hosts (map (λ p. option_map (λ h. (goal.HostFormula-dyn g (h.vtable, h.value)).step_of h.value) p.host) l.shelf.places.items))
      (λ env. glance_all env (take l.id-index l.ids));
  left : IsLeft (scene l.fn.world (map (λ p. record { there = is_some p.host; asks = p.count }) l.fn.shelf.places.items) l.fn.events.items)
      (λ hosts. AnswersBy hosts (map (λ p. option_map (λ h. (goal.HostFormula-dyn g (h.vtable, h.value)).step_of h.value) p.host) l.fn.shelf.places.items))
      l.ids l.id-index;
  spent : Spends (scene l.fn.world (map (λ p. record { there = is_some p.host; asks = p.count }) l.fn.shelf.places.items) l.fn.events.items)
      (scene l.world (map (λ p. record { there = is_some p.host; asks = p.count }) l.shelf.places.items) l.events.items);
  counted : IsCounted (map (λ p. option_map (λ h. (goal.HostFormula-dyn g (h.vtable, h.value)).asks h.value) p.host) l.shelf.places.items)
      (map (λ p. record { there = is_some p.host; asks = p.count }) l.shelf.places.items);
}
