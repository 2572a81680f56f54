-- What settling asks of host formulas.
use Rattle.std.specs.Prelude.{◌≡◌, ℕ, ◌<◌, IsTrue, true, List, Option, Some, None}
use Rattle.signal_model.specs.Recipes.{Hosts}
use Rattle.signal_model.specs.Signals.{Signals, Stands}
use Rattle.signal_model.specs.Memos.{Memos}
use Rattle.signal_model.specs.Settling.{settled}
use Rattle.signal_model.specs.Asks.{moments}
use Rattle.sig_host.specs.Hosts.{HostPlace, asked_more_at, count_at, is_there, last_ask, places_after}
use Rattle.sig_nodes.specs.Answers.{host_here}
use Rattle.sig_graph.specs.HostUse.{uses_host}
use Rattle.sig_computed.specs.Steps.{Phase, Looking, LookedAt, Running, Waiting}

-- each host formula that a computed asks is there
pub record AreThere (w : Signals) (asked : List HostPlace) : Type 0 where
  pub each : (place : ℕ) → uses_host w place ≡ true → is_there asked place ≡ true

-- the formulas that were there are there, and no others
abbrev pub StayThere : List HostPlace → List HostPlace → Type 0
StayThere old new = (place : ℕ) → is_there new place ≡ is_there old place

-- Settling names asks each formula exactly as its runs do: each run of a host formula asks it once, and once more after each good read.
pub record IsAsking (hosts : Hosts) (w : Signals) (k : Memos) (asked : List ℕ) (old new : List HostPlace) : Type 0 where
  pub places : new ≡ places_after (moments w (settled hosts w k asked).runs) 0 old

-- ---- a step

-- a host formula that may be asked is there, and its count isn't at its last value
abbrev pub CanAsk : Option ℕ → List HostPlace → Type 0
CanAsk None asked = Unit {0}
CanAsk (Some place) asked = IsTrue (is_there asked place) × (count_at asked place < last_ask)

-- the host formula, if there is one, was asked once
abbrev pub asked_once : Option ℕ → List HostPlace → List HostPlace
asked_once None asked = asked
asked_once (Some place) asked = asked_more_at asked place 1

-- after a step in a phase: only a frame that runs asks, and a frame that waits keeps its slot
abbrev pub places_by : Stands → Phase → List HostPlace → List HostPlace
places_by st (Looking place) asked = asked
places_by st (LookedAt place) asked = asked
places_by st (Running known reads) asked = asked_once (host_here st) asked
places_by st (Waiting slot known reads) asked = asked
