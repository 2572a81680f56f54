use Rattle.std.proofs.Common.{◌≡◌, ◌-◌, is_some, map, option_map}
use Rattle.signal_model.specs.Recipes.{Hosts}
use Rattle.effect_model.specs.Worlds.{effect_numbers}
use Rattle.effect_tables.specs.Placed.{effect_of}
use Rattle.sig_effect.specs.Stores.{environment}
use Rattle.sig_host.specs.Hosts.{AnswersBy, IsCounted}
use Rattle.effect_tables.specs.Visits.{some_ran, visit_all}
use Rattle.effect_world.specs.Signals.{scene}
use Rattle.effect_world.specs.Stores.{IsSound}
use Rattle.effect_world.specs.Wholes.{whole_of}
use Rattle.effect_turns.specs.Runs.{Runs, Spends}
use Rattle.effect_turns.proofs.Rising.{below}
use Rattle.effect_turns.proofs.turns.turn.Given as goal

-- the effects with lower numbers that lived at the start are visited
abbrev pub invariant-visiting : goal.invariant-visiting
invariant-visiting g l = record {
  done : Runs (map (λ r. r.slack) l.rules)
      (scene l.fn.world (map (λ p. record { there = is_some p.host; asks = p.count }) l.fn.shelf.places.items) l.fn.events.items)
      (scene l.world (map (λ p. record { there = is_some p.host; asks = p.count }) l.shelf.places.items) l.events.items)
      (λ hosts. AnswersBy hosts (map (λ p. option_map (λ h. (goal.HostFormula-dyn g (h.vtable, h.value)).step_of h.value) p.host) l.fn.shelf.places.items))
      (λ hosts. AnswersBy hosts (map (λ p. option_map (λ h. (goal.HostFormula-dyn g (h.vtable, h.value)).step_of h.value) p.host) l.shelf.places.items))
      (λ env. visit_all env (below l.low (effect_numbers (map effect_of l.fn.world.tables.effects.items))));
  ran : (hosts : Hosts) →
      AnswersBy hosts (map (λ p. option_map (λ h. (goal.HostFormula-dyn g (h.vtable, h.value)).step_of h.value) p.host) l.fn.shelf.places.items) →
      IsSound hosts (map (λ p. record { there = is_some p.host; asks = p.count }) l.fn.shelf.places.items) l.fn.world →
      l.ran ≡ some_ran (environment hosts (map (λ r. r.slack) l.rules)) (below l.low (effect_numbers (map effect_of l.fn.world.tables.effects.items)))
      (whole_of (map (λ p. record { there = is_some p.host; asks = p.count }) l.fn.shelf.places.items) l.fn.world);
  spent : Spends (scene l.fn.world (map (λ p. record { there = is_some p.host; asks = p.count }) l.fn.shelf.places.items) l.fn.events.items)
      (scene l.world (map (λ p. record { there = is_some p.host; asks = p.count }) l.shelf.places.items) l.events.items);
  counted : IsCounted (map (λ p. option_map (λ h. (goal.HostFormula-dyn g (h.vtable, h.value)).asks h.value) p.host) l.shelf.places.items)
      (map (λ p. record { there = is_some p.host; asks = p.count }) l.shelf.places.items);
}

abbrev pub decreases-visiting : goal.decreases-visiting
decreases-visiting g l = l.bound - l.low
