-- The plain world that the stores stand for.
use Rattle.std.specs.Prelude.{ℕ, suc, Bool, List, [], ◌∷◌, if◌then◌else◌}
use Rattle.effect_model.specs.Commands.{new_world}
use Rattle.effect_model.specs.Worlds as plain
use Rattle.effect_model.specs.Worlds.{HostState, unused, used, dropped}
use Rattle.sig_host.specs.Hosts.{HostPlace}
use Rattle.sig_graph.specs.HostUse.{uses_host}
use Rattle.sig_graph.specs.States.{Seen}
use Rattle.sig_watcher.specs.Tables.{Table}

-- how the host formula of a place stands, by whether a computed asks it: dropped where it isn't there, used where one does, and else unused
abbrev pub host_state : Bool → HostPlace → HostState
host_state uses p = if p.there then (if uses then used p.asks else unused) else dropped p.asks

-- those of the places from one on
abbrev pub host_states : (ℕ → Bool) → ℕ → List HostPlace → List HostState
host_states uses place [] = []
host_states uses place (p ∷ ps) = host_state (uses place) p ∷ host_states uses (suc place) ps

-- a graph, watchers, and what is known of the places of host formulas, as a plain world at rest in which nothing else was made
abbrev pub whole : List HostPlace → Seen → Table → plain.World
whole asked g t = record (new_world 0) {
  signals = g.state.signals;
  memos = g.state.memos;
  host_states = host_states (uses_host g.state.signals) 0 asked;
  watchers = t.watchers;
  made = record ((new_world 0).made) { signals = g.given; watchers = t.made };
}

-- the stores of signals: a graph, and who watches it
pub record SignalStores : Type 0 where
  pub graph : Seen
  pub watchers : Table

-- the plain world that these stand for, beside what is known of the places of host formulas
abbrev pub whole_of : List HostPlace → SignalStores → plain.World
whole_of asked w = whole asked w.graph w.watchers
