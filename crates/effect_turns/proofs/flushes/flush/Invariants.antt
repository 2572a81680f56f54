use Rattle.std.proofs.Common.{◌-◌, ◌≤◌, is_some, map, option_map}
use Rattle.sig_host.specs.Hosts.{AnswersBy, IsCounted}
use Rattle.effect_tables.specs.Turned.{after_turns}
use Rattle.effect_world.specs.Signals.{scene}
use Rattle.effect_turns.specs.Runs.{Runs, Spends}
use Rattle.effect_turns.proofs.Loops.{IsSoFar}
use Rattle.effect_turns.proofs.flushes.flush.Given as goal

-- so many turns were made, each of which ran an effect
abbrev pub invariant-turning : goal.invariant-turning
invariant-turning g l = record {
  done : Runs (map (λ r. r.slack) l.rules)
      (scene l.fn.world (map (λ p. record { there = is_some p.host; asks = p.count }) l.fn.shelf.places.items) l.fn.events.items)
      (scene l.world (map (λ p. record { there = is_some p.host; asks = p.count }) l.shelf.places.items) l.events.items)
      (λ hosts. AnswersBy hosts (map (λ p. option_map (λ h. (goal.HostFormula-dyn g (h.vtable, h.value)).step_of h.value) p.host) l.fn.shelf.places.items))
      (λ hosts. AnswersBy hosts (map (λ p. option_map (λ h. (goal.HostFormula-dyn g (h.vtable, h.value)).step_of h.value) p.host) l.shelf.places.items))
      (after_turns l.turns);
  far : IsSoFar (map (λ r. r.slack) l.rules) (scene l.fn.world (map (λ p. record { there = is_some p.host; asks = p.count }) l.fn.shelf.places.items) l.fn.events.items)
      (λ hosts. AnswersBy hosts (map (λ p. option_map (λ h. (goal.HostFormula-dyn g (h.vtable, h.value)).step_of h.value) p.host) l.fn.shelf.places.items))
      l.turns;
  spent : Spends (scene l.fn.world (map (λ p. record { there = is_some p.host; asks = p.count }) l.fn.shelf.places.items) l.fn.events.items)
      (scene l.world (map (λ p. record { there = is_some p.host; asks = p.count }) l.shelf.places.items) l.events.items);
  counted : IsCounted (map (λ p. option_map (λ h. (goal.HostFormula-dyn g (h.vtable, h.value)).asks h.value) p.host) l.shelf.places.items)
      (map (λ p. record { there = is_some p.host; asks = p.count }) l.shelf.places.items);
  within : l.turns ≤ 100;
}

abbrev pub decreases-turning : goal.decreases-turning
decreases-turning g l = 100 - l.turns
