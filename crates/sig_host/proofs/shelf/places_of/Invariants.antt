use Rattle.std.proofs.Common.{◌≡◌, map, Some, option_map, is_some}
use Rattle.sig_host.specs.Hosts.{unasked_place}
use Rattle.sig_host.proofs.shelf.places_of.Given as goal

abbrev pub invariant-loop-lent : goal.invariant-loop-lent
invariant-loop-lent g l = record {
  meanings : map (λ p. option_map (λ h. (goal.HostFormula-dyn g (h.vtable, h.value)).step_of h.value) p.host) l.places.items ≡ map (λ h. Some ((goal.HostFormula-dyn g (h.vtable, h.value)).step_of h.value)) l.yielded;
  answered : map (λ p. option_map (λ h. (goal.HostFormula-dyn g (h.vtable, h.value)).asks h.value) p.host) l.places.items ≡ map (λ _. Some 0) l.yielded;
  asked : map (λ p. record { there = is_some p.host; asks = p.count }) l.places.items ≡ map (λ _. unasked_place) l.yielded;
}
