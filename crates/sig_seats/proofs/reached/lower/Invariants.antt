use Rattle.std.proofs.Common.{◌≡◌, ℕ, ◌&&◌, not, drop, length}
use Rattle.signal_model.specs.Signals.{is_in}
use Rattle.sig_seats.specs.Flags.{is_up}
use Rattle.sig_seats.proofs.reached.lower.Given as goal

abbrev pub invariant-loop-seat : goal.invariant-loop-seat
invariant-loop-seat l = record {
  flags : (s : ℕ) → (is_up l.flags.items s && not (is_in s (drop l.seat-index l.seats))) ≡ (is_up l.fn.flags.items s && not (is_in s l.seats));
  size : length l.flags.items ≡ length l.fn.flags.items;
}
