use Rattle.std.proofs.Common.{◌≡◌, [], is_some, map, option_map, take}
use Rattle.signal_model.specs.Recipes.{Hosts}
use Rattle.signal_model.specs.Values.{value_of}
use Rattle.signal_model.specs.Kept.{AreKept}
use Rattle.sig_host.specs.Hosts.{AnswersBy, IsCounted}
use Rattle.sig_computed.specs.Scenes.{scene, CanSettle, Settles}
use Rattle.sig_computed.proofs.all.settle_all.Given as goal

-- the names so far are settled
abbrev pub invariant-loop-id : goal.invariant-loop-id
invariant-loop-id g l = record {
  values : (hosts : Hosts) → AnswersBy hosts (map (λ p. option_map (λ h. (goal.HostFormula-dyn g (h.vtable, h.value)).step_of h.value) p.host) l.fn.shelf.places.items) →
      AreKept hosts l.fn.graph.state.signals l.fn.graph.state.memos →
      l.outcomes.items ≡ map (λ n. value_of hosts l.fn.graph.state.signals n []) (take l.id-index l.ids);
  settles : Settles (scene l.fn.graph (map (λ p. record { there = is_some p.host; asks = p.count }) l.fn.shelf.places.items) l.fn.notes.items)
      (scene l.graph (map (λ p. record { there = is_some p.host; asks = p.count }) l.shelf.places.items) l.notes.items)
      (λ hosts. AnswersBy hosts (map (λ p. option_map (λ h. (goal.HostFormula-dyn g (h.vtable, h.value)).step_of h.value) p.host) l.fn.shelf.places.items))
      (λ hosts. AnswersBy hosts (map (λ p. option_map (λ h. (goal.HostFormula-dyn g (h.vtable, h.value)).step_of h.value) p.host) l.shelf.places.items))
      (λ _. take l.id-index l.ids);
  can : CanSettle (scene l.graph (map (λ p. record { there = is_some p.host; asks = p.count }) l.shelf.places.items) l.notes.items);
  counted : IsCounted (map (λ p. option_map (λ h. (goal.HostFormula-dyn g (h.vtable, h.value)).asks h.value) p.host) l.shelf.places.items)
      (map (λ p. record { there = is_some p.host; asks = p.count }) l.shelf.places.items);
}
