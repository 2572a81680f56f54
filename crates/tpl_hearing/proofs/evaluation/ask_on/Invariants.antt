use Rattle.std.proofs.Common.{is_some, length, map, option_map}
use Rattle.std.specs.Option.{option_copied}
use Rattle.sig_formula.specs.Trees.{tree}
use Rattle.sig_host.specs.Hosts.{AnswersBy, IsCounted}
use Rattle.signal_model.specs.Values.{unknown_slots}
use Rattle.tpl_hearing.specs.Heard.{recipe_of, scene, CanSettle, Hears}
use Rattle.tpl_hearing.proofs.Asks.{IsAsking}
use Rattle.tpl_hearing.proofs.evaluation.ask_on.Given as goal

abbrev pub invariant-asking : goal.invariant-asking
invariant-asking g l = record {
  asking : IsAsking (recipe_of (tree l.formula) (option_copied l.row) l.slots) l.known.items l.reads.items l.fn.heard l.heard;
  after : Hears (scene l.fn.graph (map (λ p. record { there = is_some p.host; asks = p.count }) l.fn.shelf.places.items) l.fn.notes.items)
      (scene l.graph (map (λ p. record { there = is_some p.host; asks = p.count }) l.shelf.places.items) l.notes.items)
      (λ hosts. AnswersBy hosts (map (λ p. option_map (λ h. (goal.HostFormula-dyn g (h.vtable, h.value)).step_of h.value) p.host) l.fn.shelf.places.items))
      (λ hosts. AnswersBy hosts (map (λ p. option_map (λ h. (goal.HostFormula-dyn g (h.vtable, h.value)).step_of h.value) p.host) l.shelf.places.items))
      l.fn.heard l.heard;
  can : CanSettle (scene l.graph (map (λ p. record { there = is_some p.host; asks = p.count }) l.shelf.places.items) l.notes.items);
  counted : IsCounted (map (λ p. option_map (λ h. (goal.HostFormula-dyn g (h.vtable, h.value)).asks h.value) p.host) l.shelf.places.items)
      (map (λ p. record { there = is_some p.host; asks = p.count }) l.shelf.places.items);
}

abbrev pub decreases-asking : goal.decreases-asking
decreases-asking g l = unknown_slots (length l.slots) l.known.items
