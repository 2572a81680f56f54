-- What handlers of events do to the parts of a machine, and how it is told.
use Rattle.std.specs.Prelude.{◌≡◌, ◌+◌, ◌*◌, ◌^◌, ◌<◌, ◌≤◌, ◌++◌, ℕ, List, [], length, map, slice_get, Option, Some, None}
use Rattle.signal_model.specs.Recipes.{Hosts}
use Rattle.signal_model.specs.Sound.{names_of}
use Rattle.effect_model.specs.Bodies.{Body, body_evaluation}
use Rattle.effect_model.specs.Worlds.{Environment}
use Rattle.effect_tables.specs.Bodies.{body_of, no_body}
use Rattle.effect_tables.specs.declared.effect.Script.{Script}
use Rattle.effect_world.specs.declared.world.World.{World}
use Rattle.effect_world.specs.Costs.{weight}
use Rattle.effect_world.specs.Stores.{Agrees, IsSound}
use Rattle.effect_world.specs.Wholes.{whole_of}
use Rattle.event_model.specs.declared.fired.Fired.{Fired}
use Rattle.live_entries.specs.declared.entry.Entry.{Entry}
use Rattle.live_labels.specs.declared.labels.Labels.{Labels}
use Rattle.live_labels.specs.Views.{labels_of, KeepsNames}
use Rattle.live_model.specs.Handlers.{Handling}
use Rattle.live_model.specs.Machine as plain
use Rattle.live_model.specs.Machine.{Told, reached, settling}
use Rattle.why_model.specs.Records.{Journal}
use Rattle.sig_effect.specs.Kinds.{AreKindsOf}
use Rattle.sig_effect.specs.Stores.{AreRuled, environment}
use Rattle.sig_effect.specs.declared.events.Event.{Event}
use Rattle.sig_host.specs.Hosts.{HostPlace, most_asked}

-- the world, what is known of the places of host formulas, what things are called, the journal, once it was begun, and what happened and was told
-- so far
pub record Stage : Type 0 where
  pub world : World
  pub asked : List HostPlace
  pub labels : Labels
  pub journal : Option Journal
  pub events : List Event
  pub told : List Entry

abbrev pub stage : World → List HostPlace → Labels → Option Journal → List Event → List Entry → Stage
stage w asked labels journal events told = record { world = w; asked = asked; labels = labels; journal = journal; events = events; told = told }

-- a plain machine that has come to a stage
abbrev pub at_stage : plain.Machine → Stage → plain.Machine
at_stage m s = record m { world = whole_of s.asked s.world; labels = labels_of s.labels; journal = s.journal }

-- what is told behind what was told
abbrev pub told_behind : List Entry → Told → Told
told_behind told t = reached t.machine (told ++ t.entries)

-- A machine has come from stage to stage as the plain machine comes, whatever else there is of it; what is kept of the signals is sound, and what
-- was a cell or a computed is one until it is gone.
pub record Comes (hosts : Hosts) (old new : Stage) (act : plain.Machine → Told) : Type 0 where
  pub step : (m : plain.Machine) → reached (at_stage m new) new.told ≡ told_behind old.told (act (at_stage m old))
  pub sound : IsSound hosts new.asked new.world
  pub kinds : AreKindsOf old.world.graph.state.signals new.world.graph.state.signals

-- By equality rules of these slacks, and by the meanings by which the shelf answers, this was done; the shelf answers by these afterwards too. No
-- counter rose further than what happened stands for, a hundred and twenty-eight steps an event, and so much. No signal and no watcher was made,
-- and the tables are as before.
pub record Plays (slacks : List ℕ) (old new : Stage) (before after : Hosts → Type 0) (steps : ℕ)
    (act : Environment → plain.Machine → Told) : Type 0 where
  pub comes : (hosts : Hosts) → before hosts → IsSound hosts old.asked old.world → Comes hosts old new (act (environment hosts slacks))
  pub agrees : Agrees new.asked new.world
  pub answers : (hosts : Hosts) → before hosts → after hosts
  pub rules : (count : ℕ) → AreRuled count old.world.graph.state.signals → AreRuled count new.world.graph.state.signals
  pub given : new.world.graph.given ≡ old.world.graph.given
  pub made : new.world.watchers.made ≡ old.world.watchers.made
  pub tables : new.world.tables ≡ old.world.tables
  pub names : KeepsNames old.labels new.labels
  pub weight : weight new.world + 128 * length old.events ≤ weight old.world + 128 * length new.events + steps
  pub most : most_asked new.asked + 128 * length old.events ≤ most_asked old.asked + 128 * length new.events

-- the body of a script, if there is one
abbrev pub script_body : Option Script → Body
script_body None = no_body
script_body (Some s) = body_of 0 s []

-- the body of the script that was fired, by its place, and those of several
abbrev pub handling_in : List Script → Fired → Handling
handling_in ss x = record { node = x.node; body = script_body (slice_get ss x.handler) }

abbrev pub handlings_in : List Script → List Fired → List Handling
handlings_in ss xs = map (handling_in ss) xs

-- what a body reads is settled
abbrev pub heard : Body → Environment → plain.Machine → Told
heard b env m = settling env m (names_of (body_evaluation env.hosts m.world.signals b).reads)

-- So many handlers ran, of which that is all that is known of what happened: where it began and where it ended, there were some events.
pub record HasPlayed (slacks : List ℕ) (handlers : ℕ) (old : World) (asked : List HostPlace) (labels : Labels) (journal : Option Journal)
    (before : List Entry) (new : World) (later : List HostPlace) (called : Labels) (noted : Option Journal) (after : List Entry)
    (first last : Hosts → Type 0)
    (act : Environment → plain.Machine → Told) : Type 0 where
  pub events : List Event
  pub few : length events < 2 ^ 63
  pub plays : Plays slacks (stage old asked labels journal [] before) (stage new later called noted events after) first last (64 * handlers) act

-- the stores belong together, whatever is known of the places of host formulas
pub record AreTogether (w : World) : Type 0 where
  pub asked : List HostPlace
  pub agrees : Agrees asked w

-- So many handlers may run: the stores belong together, and no counter has come further than a sixteenth of its range and what happened, with room
-- for sixty-four acts of each.
pub record CanFire (world : World) (asked : List HostPlace) (events : List Event) (handlers : ℕ) : Type 0 where
  pub agrees : Agrees asked world
  pub weight : weight world + 64 * handlers < 2 ^ 124 + 2 ^ 70 + 128 * length events
  pub room : most_asked asked < 2 ^ 124 + 128 * length events
