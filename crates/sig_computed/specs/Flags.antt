-- Flags by which most computeds that weren't visited are told at once.
use Rattle.std.specs.Prelude.{◌≡◌, ℕ, zero, suc, ◌%◌, Bool, true, List, [], ◌∷◌}
use Rattle.signal_model.specs.Signals.{is_in}
use Rattle.sig_computed.specs.declared.visited.TheConstants.{FLAGS}

-- whether the flag at a place is up, as one counts that isn't there
abbrev pub is_raised : List Bool → ℕ → Bool
is_raised [] place = true
is_raised (f ∷ fs) zero = f
is_raised (f ∷ fs) (suc place) = is_raised fs place

-- the flag of a computed
unfoldable pub flag_of : ℕ → ℕ
flag_of n = n % FLAGS

-- the flag of each of these is up
pub record AreFlagged (flags : List Bool) (ns : List ℕ) : Type 0 where
  pub each : (m : ℕ) → is_in m ns ≡ true → is_raised flags (flag_of m) ≡ true
