-- The plain world that a world stands for.
use Rattle.std.specs.Prelude.{List}
use Rattle.effect_model.specs.Worlds as plain
use Rattle.effect_tables.specs.Placed.{placed}
use Rattle.sig_host.specs.Hosts.{HostPlace}
use Rattle.sig_effect.specs.Wholes as signals
use Rattle.sig_effect.specs.Wholes.{SignalStores}
use Rattle.effect_world.specs.declared.world.World.{World}

-- the stores of signals of a world
abbrev pub stores_of : World → SignalStores
stores_of w = record { graph = w.graph; watchers = w.watchers }

-- the plain world that a world stands for, beside what is known of the places of host formulas
abbrev pub whole_of : List HostPlace → World → plain.World
whole_of asked w = placed w.tables (signals.whole_of asked (stores_of w))
