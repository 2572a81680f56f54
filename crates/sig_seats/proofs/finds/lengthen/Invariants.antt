use Rattle.std.proofs.Common.{◌≡◌, ℕ, ◌-◌, ◌+◌, ◌≤◌, length}
use Rattle.std.specs.Prelude.{vec_capacity}
use Rattle.sig_seats.specs.Found.{held_at, place_of}
use Rattle.sig_seats.proofs.finds.lengthen.Given as goal

abbrev pub decreases-loop-at : goal.decreases-loop-at
decreases-loop-at l = l.place + 1 - length l.at.items

abbrev pub invariant-loop-at : goal.invariant-loop-at
invariant-loop-at l = record {
  held : (n high : ℕ) → held_at l.at.items (place_of n) high n ≡ held_at l.fn.at.items (place_of n) high n;
  room : vec_capacity l.fn.at ≤ vec_capacity l.at;
}
