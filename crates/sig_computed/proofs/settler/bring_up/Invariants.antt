use Rattle.std.proofs.Common.{◌≡◌, ◌+◌, [], ◌∷◌, length, map, is_some, option_map}
use Rattle.signal_model.specs.Recipes.{Hosts}
use Rattle.signal_model.specs.Kept.{AreKept}
use Rattle.sig_computed.specs.Notes.{note_of, AreNotesGiven}
use Rattle.sig_computed.specs.Views.{held, tops}
use Rattle.sig_host.specs.Hosts.{AnswersBy, IsCounted}
use Rattle.sig_computed.proofs.Asks.{HasAsked}
use Rattle.sig_computed.proofs.Stacks.{HasStack}
use Rattle.sig_computed.proofs.Measure.{work}
use Rattle.sig_computed.proofs.Wholes.{IsWhole}
use Rattle.sig_computed.proofs.settler.bring_up.Given as goal

abbrev pub invariant-loop-going : goal.invariant-loop-going
invariant-loop-going g l = record {
  signals : l.graph.state.signals ≡ l.fn.graph.state.signals;
  seats : l.graph.seats ≡ l.fn.graph.seats;
  given : l.graph.given ≡ l.fn.graph.given;
  named : AreNotesGiven l.fn.graph (map note_of l.fn.notes.items) → AreNotesGiven l.fn.graph (map note_of l.notes.items);
  worn : l.graph.state.worn + length l.fn.notes.items ≡ l.fn.graph.state.worn + length l.notes.items;
  frames : HasStack l.graph (held l.going l.frame (tops l.stack.items));
  counted : IsCounted (map (λ p. option_map (λ h. (goal.HostFormula-dyn g (h.vtable, h.value)).asks h.value) p.host) l.shelf.places.items)
      (map (λ p. record { there = is_some p.host; asks = p.count }) l.shelf.places.items);
  answers : (hosts : Hosts) → AnswersBy hosts (map (λ p. option_map (λ h. (goal.HostFormula-dyn g (h.vtable, h.value)).step_of h.value) p.host) l.fn.shelf.places.items) →
      AnswersBy hosts (map (λ p. option_map (λ h. (goal.HostFormula-dyn g (h.vtable, h.value)).step_of h.value) p.host) l.shelf.places.items);
  asked : HasAsked l.fn.graph.state.signals (map (λ p. record { there = is_some p.host; asks = p.count }) l.fn.shelf.places.items)
      (map (λ p. record { there = is_some p.host; asks = p.count }) l.shelf.places.items) (length l.fn.notes.items) (length l.notes.items) (held l.going l.frame (tops l.stack.items));
  whole : (hosts : Hosts) → AnswersBy hosts (map (λ p. option_map (λ h. (goal.HostFormula-dyn g (h.vtable, h.value)).step_of h.value) p.host) l.fn.shelf.places.items) →
      (kept : AreKept hosts l.fn.graph.state.signals l.fn.graph.state.memos) →
      IsWhole hosts l.fn.graph.state.signals l.fn.graph.state.memos kept l.fn.graph.state.looked (map (λ p. record { there = is_some p.host; asks = p.count }) l.fn.shelf.places.items)
      (l.fn.id ∷ []) l.graph.state.memos l.graph.state.looked (map (λ p. record { there = is_some p.host; asks = p.count }) l.shelf.places.items)
      (map note_of l.fn.notes.items) (map note_of l.notes.items) l.visited (held l.going l.frame (tops l.stack.items));
}

abbrev pub decreases-loop-going : goal.decreases-loop-going
decreases-loop-going g l = work l.fn.graph.state.signals l.graph.state.memos (held l.going l.frame (tops l.stack.items)) l.visited
