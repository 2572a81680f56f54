-- A flag for each seat, up for those that are listed.
use Rattle.std.specs.Prelude.{◌≡◌, ℕ, zero, suc, ◌+◌, ◌≤◌, Bool, false, List, [], ◌∷◌, length, if◌then◌else◌}
use Rattle.sig_base.specs.declared.limits.TheConstants.{MOST_NODES}
use Rattle.signal_model.specs.Signals.{is_in}

-- whether the flag of a seat is up
abbrev pub is_up : List Bool → ℕ → Bool
is_up [] s = false
is_up (t ∷ ts) zero = t
is_up (t ∷ ts) (suc s) = is_up ts s

-- how many flags are down
abbrev pub count_down : List Bool → ℕ
count_down [] = 0
count_down (t ∷ ts) = (if t then 0 else 1) + count_down ts

-- Flags that are up for exactly these seats, each of which is listed once; there is room for all that are down.
pub record AreReached (flags : List Bool) (seats : List ℕ) (capacity : ℕ) : Type 0 where
  pub size : length flags ≡ MOST_NODES
  pub up : (s : ℕ) → is_up flags s ≡ is_in s seats
  pub count : length seats + count_down flags ≡ MOST_NODES
  pub room : MOST_NODES ≤ capacity
