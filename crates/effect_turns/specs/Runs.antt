-- What runs of effects leave.
use Rattle.std.specs.Prelude.{◌≡◌, ℕ, ◌+◌, ◌*◌, ◌^◌, ◌<◌, ◌≤◌, List, length}
use Rattle.signal_model.specs.Recipes.{Hosts}
use Rattle.effect_model.specs.Worlds as plain
use Rattle.sig_host.specs.Hosts.{most_asked}
use Rattle.sig_effect.specs.Stores.{AreRuled, environment}
use Rattle.effect_world.specs.Signals.{Scene}
use Rattle.effect_world.specs.Stores.{Agrees, Does, IsSound}
use Rattle.effect_world.specs.Costs.{weight}

-- By equality rules of these slacks, and by the meanings by which the shelf answers, an act was done to the world; the shelf answers by these
-- afterwards too. No signal and no watcher was made.
pub record Runs (slacks : List ℕ) (old new : Scene) (before after : Hosts → Type 0)
    (act : plain.Environment → plain.World → plain.World) : Type 0 where
  pub does : (hosts : Hosts) → before hosts → IsSound hosts old.asked old.world →
      Does hosts old.asked new.asked old.world new.world old.events new.events (act (environment hosts slacks))
  pub agrees : Agrees new.asked new.world
  pub answers : (hosts : Hosts) → before hosts → after hosts
  pub rules : (count : ℕ) → AreRuled count old.world.graph.state.signals → AreRuled count new.world.graph.state.signals
  pub given : new.world.graph.given ≡ old.world.graph.given
  pub made : new.world.watchers.made ≡ old.world.watchers.made

-- No counter rose further than what was told stands for: a hundred and twenty-eight steps an event.
pub record Spends (old new : Scene) : Type 0 where
  pub weight : weight new.world + 128 * length old.events ≤ weight old.world + 128 * length new.events
  pub most : most_asked new.asked + 128 * length old.events ≤ most_asked old.asked + 128 * length new.events

-- Effects may run: the stores belong together, and no counter has come further than a sixteenth of its range and what was told.
pub record CanRun (x : Scene) : Type 0 where
  pub agrees : Agrees x.asked x.world
  pub weight : weight x.world < 2 ^ 124 + 128 * length x.events
  pub room : most_asked x.asked < 2 ^ 124 + 128 * length x.events

-- A body may be evaluated: likewise, where no counter has come further than an eighth of its range and what was told.
pub record CanHear (x : Scene) : Type 0 where
  pub agrees : Agrees x.asked x.world
  pub weight : weight x.world < 2 ^ 125 + 128 * length x.events
  pub room : most_asked x.asked < 2 ^ 125 + 128 * length x.events

-- Acts of an effect may be done: the stores belong together, the rule of each cell is one of so many, and the counters have room.
pub record MayAct (rules : ℕ) (x : Scene) : Type 0 where
  pub agrees : Agrees x.asked x.world
  pub ruled : AreRuled rules x.world.graph.state.signals
  pub worn : weight x.world < 2 ^ 125

-- No more was used up than what was told stands for, and so much.
pub record Uses (old new : Scene) (steps : ℕ) : Type 0 where
  pub worn : weight new.world + length old.events ≤ weight old.world + length new.events + steps
  pub told : length old.events ≤ length new.events
  pub most : most_asked new.asked ≤ most_asked old.asked
