-- The whole that effects act on, and what is told on the way.
use Rattle.std.specs.Prelude.{ℕ, suc, ◌+◌, ◌==◌, Bool, List, [], ◌∷◌, ◌++◌, map, Option, Some, None, if◌then◌else◌}
use Rattle.sig_base.specs.declared.value.Value.{Value}
use Rattle.sig_base.specs.declared.value.Fault.{Fault}
use Rattle.signal_model.specs.Recipes.{Hosts}
use Rattle.signal_model.specs.Signals.{Signals, found, standing, is_in, is_there}
use Rattle.signal_model.specs.Values.{Seen}
use Rattle.signal_model.specs.Memos.{Memos}
use Rattle.signal_model.specs.Settling.{Settled, settled}
use Rattle.signal_model.specs.Asks.{Moment, moments, asks_of}
use Rattle.effect_model.specs.declared.how.How.{How}
use Rattle.effect_model.specs.Owners.{Thing, the_signal, the_owner, the_effect, the_page, the_watcher, Cleanup, Owned, listed}
use Rattle.effect_model.specs.Bodies.{Body}

-- what comes from outside: what the host formulas answer, and the slack of each equality rule
pub record Environment : Type 0 where
  pub hosts : Hosts
  pub slacks : List ℕ

-- a host formula is not used yet, used and asked so often so far, or dropped after so many asks
pub data HostState : Type 0 where
  unused : HostState
  used : ℕ → HostState
  dropped : ℕ → HostState

-- a watcher with the signals that it watches, whether it is watching, and whether its notification tries a command
pub record Watcher : Type 0 where
  pub number : ℕ
  pub signals : List ℕ
  pub watching : Bool
  pub tries : Bool

-- an effect, with the tracked reads of its last run where it has run
pub record Effect : Type 0 where
  pub number : ℕ
  pub body : Body
  pub kept : Option (List Seen)

-- how many of each kind were made so far, which are the numbers that come next
pub record Counts : Type 0 where
  pub signals : ℕ
  pub owners : ℕ
  pub effects : ℕ
  pub pages : ℕ
  pub watchers : ℕ

-- Why something is refused: its thing is gone; its host formula is used or was dropped; an effect is due after the last turn of a flush.
pub data Refused : Type 0 where
  thing_gone : Thing → Refused
  host_taken : ℕ → Refused
  still_due : Refused

-- what is told; a change of a signal, the making of a child and the noting of a cleanup print nothing
pub data Event : Type 0 where
  -- a computed ran, on the signals of that moment
  ran : Moment → Event
  -- a signal was changed so: it was set or given back, rewired, or it is gone
  changed_signal : ℕ → How → Event
  -- a watcher is notified; and these are those whose notification tried a command
  notified : ℕ → Event
  frozen : List ℕ → Event
  logged : Value → Event
  -- an effect's body was evaluated, with its tracked reads; or it failed
  body_ran : ℕ → List ℕ → Event
  failed : ℕ → Fault → Event
  -- a cleanup is about to be done
  cleaned : Thing → Cleanup → Event
  gone : Thing → Event
  -- a host formula is dropped after so many asks
  dropped_host : ℕ → ℕ → Event
  refused : Refused → Event
  -- a child effect, its parent, and the number in its label
  made_child : ℕ → ℕ → ℕ → Event
  noted : Thing → Cleanup → Event

-- What lives is in tables, each in the order of making. What stands under what, how many were made, and what was told stand beside them.
pub record World : Type 0 where
  pub signals : Signals
  pub memos : Memos
  pub host_states : List HostState
  pub watchers : List Watcher
  pub owners : List ℕ
  pub effects : List Effect
  pub pages : List ℕ
  pub owned : Owned
  pub made : Counts
  pub told : List Event

-- one more is told
abbrev pub tell : Event → World → World
tell e w = record w { told = w.told ++ e ∷ [] }

-- these are told
abbrev pub tell_all : List Event → World → World
tell_all es w = record w { told = w.told ++ es }

-- Between two commands nothing is left to tell. It isn't kept which signals and pages stand at the top.
abbrev pub at_rest : World → World
at_rest w = record w { owned = listed w.owned; told = [] }

-- the effect of a number
abbrev pub effect_at : ℕ → List Effect → Option Effect
effect_at n xs = found (λ (x : Effect). x.number) n xs

-- the numbers of effects
abbrev pub effect_numbers : List Effect → List ℕ
effect_numbers xs = map (λ (x : Effect). x.number) xs

-- the numbers of watchers
abbrev pub watcher_numbers : List Watcher → List ℕ
watcher_numbers xs = map (λ (x : Watcher). x.number) xs

-- whether a thing lives
abbrev pub lives : Thing → World → Bool
lives (the_signal n) w = is_there (standing w.signals n)
lives (the_owner n) w = is_in n w.owners
lives (the_effect n) w = is_in n (effect_numbers w.effects)
lives (the_page n) w = is_in n w.pages
lives (the_watcher n) w = is_in n (watcher_numbers w.watchers)

-- ---- settling

-- a host formula that is used was asked so many times more
abbrev pub asked_more : ℕ → HostState → HostState
asked_more n (used asks) = used (asks + n)
asked_more n s = s

-- the host formulas from a place on, after these runs
abbrev pub asked_by : List Moment → ℕ → List HostState → List HostState
asked_by runs place [] = []
asked_by runs place (s ∷ ss) = asked_more (asks_of place runs) s ∷ asked_by runs (suc place) ss

-- the memos are those after settling, the asks of its runs are counted, and its runs are told
abbrev pub with_settled : Settled → World → World
with_settled s w =
    let runs = moments w.signals s.runs in
    record w { memos = s.memos; host_states = asked_by runs 0 w.host_states; told = w.told ++ map ran runs }

-- names are settled, one after the other
abbrev pub settle : Environment → List ℕ → World → World
settle env names w = with_settled (settled env.hosts w.signals w.memos names) w
