use Rattle.std.proofs.Common.{◌≡◌, ℕ, ◌-◌, ◌+◌, ◌≤◌, length}
use Rattle.std.specs.Prelude.{slice_index_or, vec_capacity}
use Rattle.sig_seats.proofs.finds.note_high.Given as goal

abbrev pub decreases-loop-highs : goal.decreases-loop-highs
decreases-loop-highs l = l.place + 1 - length l.highs.items

abbrev pub invariant-loop-highs : goal.invariant-loop-highs
invariant-loop-highs l = record {
  held : (s : ℕ) → slice_index_or l.highs.items s 0 ≡ slice_index_or l.fn.highs.items s 0;
  room : vec_capacity l.fn.highs ≤ vec_capacity l.highs;
}
