-- How the stores of a world belong together, and what an act does to them.
use Rattle.std.specs.Prelude.{◌≡◌, ℕ, ◌+◌, ◌≤◌, true, false, List, Some}
use Rattle.std.specs.List.{AllByRecursion}
use Rattle.signal_model.specs.Recipes.{Hosts}
use Rattle.signal_model.specs.Signals.{Signals, Computed, IsComputed, is_in, is_there, standing}
use Rattle.signal_model.specs.Kept.{AreKept}
use Rattle.effect_model.specs.Worlds as plain
use Rattle.effect_model.specs.Worlds.{Watcher}
use Rattle.effect_model.specs.Watchers.{signals_at_rest}
use Rattle.sig_host.specs.Hosts as places
use Rattle.sig_host.specs.Hosts.{HostPlace, count_at, unasked_place}
use Rattle.sig_nodes.specs.Answers.{host_here}
use Rattle.sig_graph.specs.HostUse.{uses_host}
use Rattle.sig_state.specs.Equality.{IsRuled}
use Rattle.sig_computed.specs.Notes.{IsIdle}
use Rattle.sig_computed.specs.Asked.{AreThere}
use Rattle.sig_effect.specs.declared.events.Event.{Event}
use Rattle.sig_effect.specs.Events.{Tells}
use Rattle.sig_effect.specs.Wholes.{SignalStores, whole_of}

-- each computed that stands is the one under its name
abbrev pub AreListed : Signals → Type 0
AreListed w = AllByRecursion (λ (c : Computed). standing w c.name ≡ IsComputed c) w.computeds

-- the host formula of a computed is that of no other
pub record AreOwn (w : Signals) : Type 0 where
  pub one : (n m place : ℕ) → host_here (standing w n) ≡ Some place → host_here (standing w m) ≡ Some place → n ≡ m

-- each signal of these watchers stands
abbrev pub AreWatched : Signals → List Watcher → Type 0
AreWatched w xs = AllByRecursion (λ (x : Watcher). (n : ℕ) → is_in n x.signals ≡ true → is_there (standing w n) ≡ true) xs

-- Nothing is being evaluated, the host formula of each computed is there and is that of no other, and what is watched stands.
pub record Agrees (asked : List HostPlace) (w : SignalStores) : Type 0 where
  pub idle : IsIdle w.graph.state
  pub listed : AreListed w.graph.state.signals
  pub there : AreThere w.graph.state.signals asked
  pub own : AreOwn w.graph.state.signals
  pub watched : AreWatched w.graph.state.signals w.watchers.watchers

-- the equality rule of each cell is one of so many
pub record AreRuled (rules : ℕ) (w : Signals) : Type 0 where
  pub each : (n : ℕ) → IsRuled rules (standing w n)

-- a host formula that is there and that no computed asks was never asked
pub record AreUnasked (asked : List HostPlace) (w : Signals) : Type 0 where
  pub never : (place : ℕ) → places.is_there asked place ≡ true → uses_host w place ≡ false → count_at asked place ≡ 0

-- for these meanings of host formulas what is kept of the signals is sound, and a host formula that is free was never asked
pub record IsSound (hosts : Hosts) (asked : List HostPlace) (w : SignalStores) : Type 0 where
  pub kept : AreKept hosts w.graph.state.signals w.graph.state.memos
  pub unasked : AreUnasked asked w.graph.state.signals

-- the environment of these meanings of host formulas, and of these slacks of equality rules
abbrev pub environment : Hosts → List ℕ → plain.Environment
environment hosts slacks = record { hosts = hosts; slacks = slacks }

-- no host formula was asked yet, and none was dropped
abbrev pub AreNew : List HostPlace → Type 0
AreNew asked = AllByRecursion (λ (p : HostPlace). p ≡ unasked_place) asked

-- a change gives no ids, and raises the counters by one at most
pub record Stays (old new : SignalStores) : Type 0 where
  pub given : new.graph.given ≡ old.graph.given
  pub made : new.watchers.made ≡ old.watchers.made
  pub worn : new.graph.state.worn ≤ old.graph.state.worn + 1

-- An act was done: the stores stand for the plain world after it, the events that were put behind the others are those that it told, and
-- what is sound stayed so.
pub record Does (hosts : Hosts) (asked later : List HostPlace) (old new : SignalStores) (before after : List Event)
    (act : plain.World → plain.World) : Type 0 where
  pub whole : whole_of later new ≡ signals_at_rest (act (whole_of asked old))
  pub told : Tells before after (act (whole_of asked old)).told
  pub sound : IsSound hosts later new
