use Rattle.std.proofs.Common.{◌≡◌, ◌<◌, ℕ, true, Some}
use Rattle.signal_model.specs.Memos.{keeps}
use Rattle.sig_seats.specs.Seats.{holder}
use Rattle.sig_watcher.specs.Reach.{Adds, HasSeat}
use Rattle.sig_watcher.proofs.reach.add_keepers.Given as goal

abbrev pub invariant-loop-seat : goal.invariant-loop-seat
invariant-loop-seat l = record {
  adds : Adds l.graph (λ m. keeps l.graph.state.memos m l.id) l.initial.reached l.reached;
  there : (m s : ℕ) → s < l.seat → holder l.graph.seats s ≡ Some m → keeps l.graph.state.memos m l.id ≡ true → HasSeat l.graph l.reached m;
}
