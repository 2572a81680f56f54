use Rattle.std.proofs.Common.{◌≤◌, ◌+◌, is_some, length, map, option_map, take}
use Rattle.effect_model.specs.Acts.{undo_all}
use Rattle.effect_tables.specs.Bodies.{undoings_of}
use Rattle.sig_host.specs.Hosts.{AnswersBy, IsCounted}
use Rattle.effect_world.specs.Signals.{Undoes, scene}
use Rattle.effect_world.proofs.world.World.undo_all.Given as goal

-- the steps so far are done
abbrev pub invariant-loop-undoing : goal.invariant-loop-undoing
invariant-loop-undoing g l = record {
  done : Undoes (map (λ r. r.slack) l.rules)
      (scene l.fn.self (map (λ p. record { there = is_some p.host; asks = p.count }) l.fn.shelf.places.items) l.fn.events.items)
      (scene l.self (map (λ p. record { there = is_some p.host; asks = p.count }) l.shelf.places.items) l.events.items)
      (λ hosts. AnswersBy hosts (map (λ p. option_map (λ h. (goal.HostFormula-dyn g (h.vtable, h.value)).step_of h.value) p.host) l.fn.shelf.places.items))
      (λ hosts. AnswersBy hosts (map (λ p. option_map (λ h. (goal.HostFormula-dyn g (h.vtable, h.value)).step_of h.value) p.host) l.shelf.places.items))
      l.undoing-index (λ env. undo_all env (undoings_of (take l.undoing-index l.undoings)));
  within : l.undoing-index ≤ length l.undoings;
  told : length l.fn.events.items + l.undoing-index ≤ length l.events.items;
  counted : IsCounted (map (λ p. option_map (λ h. (goal.HostFormula-dyn g (h.vtable, h.value)).asks h.value) p.host) l.shelf.places.items)
      (map (λ p. record { there = is_some p.host; asks = p.count }) l.shelf.places.items);
}
