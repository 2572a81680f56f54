-- How acts are refused.
use Rattle.std.specs.Prelude.{◌≡◌, ℕ, List, [], ◌∷◌, Option, Some, None, if◌then◌else◌}
use Rattle.signal_model.specs.Signals.{Signals, is_there, standing}
use Rattle.effect_model.specs.Worlds.{Refused, refused}
use Rattle.sig_effect.specs.declared.events.Event.{Event}
use Rattle.sig_effect.specs.Events.{IsTold}

-- the first of these signals that is gone
abbrev pub first_gone : Signals → List ℕ → Option ℕ
first_gone w [] = None
first_gone w (n ∷ ns) = if is_there (standing w n) then first_gone w ns else Some n

-- there is a refusal, and an event tells of it
pub record IsRefusal (e : Event) (o : Option Refused) : Type 0 where
  pub why : Refused
  pub is : o ≡ Some why
  pub told : IsTold e (refused why)
