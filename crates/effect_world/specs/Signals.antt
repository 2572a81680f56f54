-- What is done to the signals of a world alone.
use Rattle.std.specs.Prelude.{◌≡◌, ℕ, ◌+◌, ◌≤◌, true, Bool, List}
use Rattle.signal_model.specs.Recipes.{Hosts}
use Rattle.signal_model.specs.Signals.{is_there, standing}
use Rattle.effect_model.specs.Owners.{Thing, the_signal, the_owner, the_effect, the_page, the_watcher}
use Rattle.effect_model.specs.Worlds as plain
use Rattle.effect_tables.specs.declared.thing.Undoing.{Undoing}
use Rattle.effect_tables.specs.declared.thing.Undoing.TheVariants as undoing
use Rattle.effect_tables.specs.Bodies.{thing_of}
use Rattle.effect_teardown.specs.Trees.{IsEffect}
use Rattle.sig_host.specs.Hosts.{HostPlace, most_asked}
use Rattle.sig_watcher.specs.Tables.{is_alive}
use Rattle.sig_effect.specs.Stores as below
use Rattle.sig_effect.specs.Stores.{AreRuled, environment}
use Rattle.sig_effect.specs.declared.events.Event.{Event}
use Rattle.effect_world.specs.declared.world.World.{World}
use Rattle.effect_world.specs.Stores.{IsSound}
use Rattle.effect_world.specs.Wholes.{stores_of}

-- an act was done to the stores of signals of a world
abbrev pub Acts : Hosts → List HostPlace → List HostPlace → World → World → List Event → List Event → (plain.World → plain.World) → Type 0
Acts hosts asked later old new before after act = below.Does hosts asked later (stores_of old) (stores_of new) before after act

-- a world, what is known of the places of host formulas, and what was told so far
pub record Scene : Type 0 where
  pub world : World
  pub asked : List HostPlace
  pub events : List Event

abbrev pub scene : World → List HostPlace → List Event → Scene
scene w asked events = record { world = w; asked = asked; events = events }

-- By equality rules of these slacks an act was done to the signals, which raised their counters by so much at most. Nothing was made, and
-- the tables are as before.
pub record Undoes (slacks : List ℕ) (old new : Scene) (before after : Hosts → Type 0) (steps : ℕ)
    (act : plain.Environment → plain.World → plain.World) : Type 0 where
  pub acts : (hosts : Hosts) → IsSound hosts old.asked old.world →
      Acts hosts old.asked new.asked old.world new.world old.events new.events (act (environment hosts slacks))
  pub agrees : below.Agrees new.asked (stores_of new.world)
  pub answers : (hosts : Hosts) → before hosts → after hosts
  pub most : most_asked new.asked ≤ most_asked old.asked
  pub rules : (count : ℕ) → AreRuled count old.world.graph.state.signals → AreRuled count new.world.graph.state.signals
  pub tables : new.world.tables ≡ old.world.tables
  pub given : new.world.graph.given ≡ old.world.graph.given
  pub made : new.world.watchers.made ≡ old.world.watchers.made
  pub worn : new.world.graph.state.worn ≤ old.world.graph.state.worn + steps

-- nothing is asked of host formulas
abbrev pub any_hosts : Hosts → Type 0
any_hosts hosts = Unit {0}

-- a cleanup that is to be done is that of an effect
abbrev pub IsNoted : Undoing → Type 0
IsNoted (undoing.Cleanup t c) = IsEffect (thing_of t)
IsNoted (undoing.Gone t) = Unit {0}

-- whether a signal or a watcher lives; of other things the tables tell
abbrev pub is_standing : Thing → World → Bool
is_standing (the_signal n) w = is_there (standing w.graph.state.signals n)
is_standing (the_watcher n) w = is_alive w.watchers.watchers n
is_standing (the_owner n) w = true
is_standing (the_effect n) w = true
is_standing (the_page n) w = true
