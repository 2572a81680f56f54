-- How the stores of a world belong together, and what an act does to them.
use Rattle.std.specs.Prelude.{◌≡◌, ℕ, ◌≤◌, false, List, map}
use Rattle.signal_model.specs.Recipes.{Hosts}
use Rattle.effect_model.specs.Owners.{the_signal}
use Rattle.effect_model.specs.Worlds as plain
use Rattle.sig_host.specs.Hosts.{HostPlace}
use Rattle.sig_owner.specs.Trees.{has_thing, owned_of}
use Rattle.effect_tables.specs.Consistency.{TablesAgree}
use Rattle.effect_model.specs.Worlds.{at_rest}
use Rattle.effect_tables.specs.Placed.{effect_of, tree_of}
use Rattle.effect_tables.specs.Heard.{AreHeard}
use Rattle.effect_teardown.specs.Trees.{AreFormed}
use Rattle.sig_effect.specs.Stores as below
use Rattle.sig_effect.specs.declared.events.Event.{Event}
use Rattle.effect_world.specs.declared.world.World.{World}
use Rattle.sig_effect.specs.Events.{Tells}
use Rattle.effect_world.specs.Wholes.{stores_of, whole_of}

-- The tables belong together, what stands is formed, and a signal that wasn't made stands under no owner.
pub record AreOwned (w : World) : Type 0 where
  pub tables : TablesAgree w.tables
  pub formed : AreFormed (tree_of w.tables)
  pub fresh : (n : ℕ) → w.graph.given ≤ n → has_thing (the_signal n) (owned_of w.tables.store) ≡ false

-- what is known of effects that need no look is right
abbrev pub Hears : World → Type 0
Hears w = AreHeard w.graph.state.signals w.heard (map effect_of w.tables.effects.items)

-- the stores of signals and watchers belong together, so do the tables, and what is known of effects is right
pub record Agrees (asked : List HostPlace) (w : World) : Type 0 where
  pub signals : below.Agrees asked (stores_of w)
  pub owned : AreOwned w
  pub heard : Hears w

-- for these meanings of host formulas what is kept of the signals is sound
abbrev pub IsSound : Hosts → List HostPlace → World → Type 0
IsSound hosts asked w = below.IsSound hosts asked (stores_of w)

-- An act was done: the stores stand for the plain world after it, the events that were put behind the others are those that it told, and
-- what is sound stayed so.
pub record Does (hosts : Hosts) (asked later : List HostPlace) (old new : World) (before after : List Event)
    (act : plain.World → plain.World) : Type 0 where
  pub whole : whole_of later new ≡ at_rest (act (whole_of asked old))
  pub told : Tells before after (act (whole_of asked old)).told
  pub sound : IsSound hosts later new
