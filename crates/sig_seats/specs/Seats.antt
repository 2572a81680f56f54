-- The seats of live signals.
use Rattle.std.specs.Prelude.{◌≡◌, ℕ, zero, suc, ◌+◌, ◌-◌, ◌<◌, ◌≤◌, true, List, [], ◌∷◌, ◌++◌, length, Option, Some, None, slice_set}
use Rattle.sig_base.specs.declared.limits.TheConstants.{MOST_NODES}
use Rattle.signal_model.specs.Signals.{Signals, is_in, is_there, standing}
use Rattle.signal_model.specs.Laws.{AreDistinct}

-- who has each seat, and how many are free
pub record Seating : Type 0 where
  pub holders : List (Option ℕ)
  pub free : ℕ

-- both
abbrev pub seating : List (Option ℕ) → ℕ → Seating
seating hs free = record { holders = hs; free = free }

-- who has a seat; past the last seat nobody
abbrev pub holder : List (Option ℕ) → ℕ → Option ℕ
holder [] s = None
holder (h ∷ hs) zero = h
holder (h ∷ hs) (suc s) = holder hs s

-- so many seats that nobody has
unfoldable pub empty_seats : ℕ → List (Option ℕ)
empty_seats zero = []
empty_seats (suc n) = None ∷ empty_seats n

-- all seats, by who has those that were taken before: nobody has the others
unfoldable pub all_seats : List (Option ℕ) → List (Option ℕ)
all_seats taken = taken ++ empty_seats (MOST_NODES - length taken)

-- a signal has a seat
pub record IsSeated (holders : List (Option ℕ)) (n : ℕ) : Type 0 where
  pub seat : ℕ
  pub inside : seat < MOST_NODES
  pub holds : holder holders seat ≡ Some n

-- each one that lives has
pub record AreAllSeated (w : Signals) (holders : List (Option ℕ)) : Type 0 where
  pub each : (n : ℕ) → is_there (standing w n) ≡ true → IsSeated holders n

-- a free seat is taken
abbrev pub with_taken : Seating → ℕ → ℕ → Seating
with_taken t s n = record { holders = slice_set t.holders s (Some n); free = t.free - 1 }

-- a seat is left
abbrev pub with_left : Seating → ℕ → Seating
with_left t s = record { holders = slice_set t.holders s None; free = t.free + 1 }

-- What holds of the seats that were taken before and the free ones among them: nobody has these, each stands there once, and there is
-- room for all.
pub record AreSeats (taken : List (Option ℕ)) (free : List ℕ) (most_taken most_free : ℕ) : Type 0 where
  pub few : length taken ≤ MOST_NODES
  pub inside : (s : ℕ) → is_in s free ≡ true → s < length taken
  pub nobody : (s : ℕ) → is_in s free ≡ true → holder taken s ≡ None
  pub once : AreDistinct free
  pub places : MOST_NODES ≤ most_taken
  pub room : MOST_NODES ≤ most_free
