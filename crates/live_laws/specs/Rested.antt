-- Commands of the world, which comes to rest after each.
use Rattle.std.specs.Prelude.{◌≡◌, ℕ, List, [], ◌∷◌, ◌++◌}
use Rattle.std.specs.List.{AllByRecursion}
use Rattle.signal_model.specs.Asks.{asks_of}
use Rattle.effect_model.specs.Owners.{Thing}
use Rattle.effect_model.specs.Worlds.{Environment, Event, gone, World, at_rest}
use Rattle.effect_model.specs.Commands.{Command, after_command, new_world}
use Rattle.effect_laws.specs.Rolls.{open_cleanups}
use Rattle.effect_laws.specs.Ends.{AreInTime, IsSilent}
use Rattle.effect_laws.specs.HostUse.{Drop, drops_told}
use Rattle.effect_laws.specs.KeptWorlds.{runs_told}

-- the world after commands
abbrev pub rested_after : Environment → World → List Command → World
rested_after env w [] = w
rested_after env w (c ∷ cs) = rested_after env (at_rest (after_command env w c)) cs

-- what they tell
abbrev pub told_by : Environment → World → List Command → List Event
told_by env w [] = []
told_by env w (c ∷ cs) = (after_command env w c).told ++ told_by env (at_rest (after_command env w c)) cs

-- What was told in a world from its beginning. Nothing that has ended runs, is evaluated, is notified, is cleaned up or ends again; a cleanup
-- that was noted is done once, before its effect runs again or ends, and not otherwise.
pub record AreEnds (told : List Event) : Type 0 where
  pub timely : AreInTime [] told
  pub silent : (before after : List Event) (t : Thing) → told ≡ before ++ gone t ∷ after → IsSilent t after
  pub closed : (t : Thing) → open_cleanups t 0 told ≡ 0

-- Each host formula that was dropped had been asked as often as all runs that were told ask it. So no run that comes later asks it.
abbrev pub AreAsked : List Event → Type 0
AreAsked told = AllByRecursion (λ (d : Drop). d.asks ≡ asks_of d.place (runs_told told)) (drops_told told)

-- so it is with what commands tell, each done to the world at rest
abbrev pub RestedLaw : Type 0
RestedLaw = (env : Environment) (n : ℕ) (cs : List Command) → AreEnds (told_by env (new_world n) cs) × AreAsked (told_by env (new_world n) cs)
