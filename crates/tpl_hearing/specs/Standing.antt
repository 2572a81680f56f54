-- Names that show their outcomes as they stand, one after the other.
use Rattle.std.specs.Prelude.{◌≡◌, ℕ, ◌<◌, ◌≤◌, length, slice_get, Some}
use Rattle.sig_base.specs.declared.value.Outcome.{Outcome}
use Rattle.signal_model.specs.Signals.{Signals}
use Rattle.signal_model.specs.Memos.{Memos}
use Rattle.tpl_hearing.specs.Heard.{Outcomes}
use Rattle.tpl_hearing.specs.HeardAgain.{StandsAs}

-- from one place up to another each name shows its outcome as it stands
pub record StandBetween (w : Signals) (k : Memos) (before : Outcomes) (from to : ℕ) : Type 0 where
  pub least : from ≤ to
  pub most : to ≤ length before
  pub each : (i n : ℕ) (o : Outcome) → from ≤ i → i < to → slice_get before i ≡ Some (n, o) → StandsAs w k n o
