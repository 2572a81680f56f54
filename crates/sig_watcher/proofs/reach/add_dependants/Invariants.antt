use Rattle.std.proofs.Common.{◌≡◌, ◌-◌, ℕ, true, length, take}
use Rattle.signal_model.specs.Signals.{is_in}
use Rattle.signal_model.specs.Memos.{keeps}
use Rattle.sig_graph.specs.States.{dependants_at}
use Rattle.sig_watcher.specs.Reach.{Adds, HasSeat}
use Rattle.sig_watcher.proofs.reach.add_dependants.Given as goal

abbrev pub decreases-loop-name : goal.decreases-loop-name
decreases-loop-name l = length (dependants_at l.graph.order l.id) - l.place

abbrev pub invariant-loop-name : goal.invariant-loop-name
invariant-loop-name l = record {
  adds : Adds l.graph (λ m. keeps l.graph.state.memos m l.id) l.initial.reached l.reached;
  there : (m : ℕ) → is_in m (take l.place (dependants_at l.graph.order l.id)) ≡ true → HasSeat l.graph l.reached m;
}
