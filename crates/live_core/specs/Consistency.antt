-- What holds of a machine's parts between two commands.
use Rattle.std.specs.Prelude.{◌≡◌, ◌≤◌, ◌<◌, ◌+◌, ◌*◌, ◌^◌, ℕ, Bool, true, false, not, List, [], length, map, Option, Some, None}
use Rattle.std.specs.Prelude.{nat_eq}
use Rattle.std.specs.List.{AllByRecursion, IsDistinct}
use Rattle.std.specs.Map.{keys_of}
use Rattle.signal_model.specs.Recipes.{Hosts}
use Rattle.signal_model.specs.Signals.{Signals, Stands, is_computed, is_in, is_there, standing, is_cell}
use Rattle.signal_model.specs.Changes.{live_count}
use Rattle.sig_host.specs.Hosts.{HostPlace, most_asked}
use Rattle.sig_graph.specs.States.{is_given}
use Rattle.sig_state.specs.Batches.{Collected}
use Rattle.sig_effect.specs.Stores.{AreRuled}
use Rattle.effect_tables.specs.Scripts.{IsFitting}
use Rattle.effect_tables.specs.declared.effect.Script.{Script}
use Rattle.effect_world.specs.declared.world.World.{World}
use Rattle.effect_world.specs.Stores.{Agrees, IsSound}
use Rattle.effect_world.specs.Costs.{weight}
use Rattle.event_model.specs.declared.awaited.Awaited.{Awaited}
use Rattle.live_cmd.specs.declared.command.Command.{Command}
use Rattle.live_entries.specs.declared.entry.Entry.{Entry}
use Rattle.live_model.specs.declared.names.Kind.{Kind}
use Rattle.live_model.specs.declared.names.Kind.TheVariants as kind
use Rattle.live_model.specs.declared.names.Meaning.{Meaning}
use Rattle.live_model.specs.Names.{Names, is_signal, meaning_of, same_kind}
use Rattle.live_model.specs.Machine.{Told, name_refusal, reached}
pub use Rattle.live_model.specs.Scripts.{IsReadable, IsReadItem}
use Rattle.live_pages.specs.Updates.{AreShown, ArePages, AreTemplates}
use Rattle.live_pages.specs.Views.{template_of}
use Rattle.live_core.specs.declared.machine.Machine.{Machine}
use Rattle.live_core.specs.Views.{plain_of}

-- whether what stands there is gone, or what a name of this kind stands for
abbrev pub is_of_kind : Kind → Stands → Bool
is_of_kind kind.Cell s = not (is_computed s)
is_of_kind kind.List s = not (is_computed s)
is_of_kind kind.Computed s = not (is_cell s)
is_of_kind _ s = true

-- A name of a signal stands for one that was made, and that is gone or of the name's kind, and a name of a template for one of so many.
pub record IsMeant (w : World) (templates : ℕ) (m : Meaning) : Type 0 where
  pub given : is_signal m.kind ≡ true → is_given w.graph m.number ≡ true
  pub fits : is_of_kind m.kind (standing w.graph.state.signals m.number) ≡ true
  pub template : same_kind kind.Template m.kind ≡ true → m.number < templates

-- each name does
abbrev pub AreMeant : World → ℕ → Names → Type 0
AreMeant w templates names = (n : List ℕ) (m : Meaning) → meaning_of names n ≡ Some m → IsMeant w templates m

-- What was changed in a batch are signals that stand, each once, and there is room for all others.
pub record IsRoomy (w : Signals) (b : Collected) : Type 0 where
  pub distinct : IsDistinct nat_eq (keys_of b.changed)
  pub there : (n : ℕ) → is_in n (keys_of b.changed) ≡ true → is_there (standing w n) ≡ true
  pub room : live_count w ≤ length b.changed + b.spare

-- so it is with the batch that is open, if one is
abbrev pub HasRoomyBatch : Signals → Option Collected → Type 0
HasRoomyBatch w None = Unit {0}
HasRoomyBatch w (Some b) = IsRoomy w b

-- each handler has a script, whose places stand for what there is
pub record AreHandled (waiting : List Awaited) (scripts : List Script) : Type 0 where
  pub many : length waiting ≡ length scripts
  pub fits : AllByRecursion IsFitting scripts

-- Each watcher and each page that was made has a name, names stand for what was made, the templates were read, the handlers have scripts, the pages
-- are pages that stand on the templates, and a batch that is open has room for what may be changed in it.
pub record IsReady (m : Machine) : Type 0 where
  pub watchers : m.world.watchers.made ≡ length m.labels.watchers.items
  pub paged : m.world.tables.pages_made ≡ length m.labels.pages.items
  pub meant : AreMeant m.world (length m.templates.items) m.names
  pub templates : AreTemplates m.templates.items
  pub handled : AreHandled m.handlers m.scripts.items
  pub shown : AreShown (map template_of m.templates.items) m.pages.items
  pub pages : ArePages m.world m.pages.items
  pub batch : HasRoomyBatch m.world.graph.state.signals m.batch

-- the stores belong together with the host formulas, and each cell's rule is one of so many
pub record WorldAgrees (asked : List HostPlace) (rules : ℕ) (w : World) : Type 0 where
  pub agrees : Agrees asked w
  pub ruled : AreRuled rules w.graph.state.signals

-- no name of a command is refused
abbrev pub AreFine : Machine → Command → Type 0
AreFine m c = name_refusal (plain_of [] m) c ≡ None

-- a machine has come to what the plain machine comes to, and tells what that tells; what is sound stayed so
pub record Steps (hosts : Hosts) (later : List HostPlace) (new : Machine) (entries : List Entry) (next : Told) : Type 0 where
  pub step : reached (plain_of later new) entries ≡ next
  pub sound : IsSound hosts later new.world

-- A command leaves the machine ready for the next one, and raised no counter further than this.
pub record Leaves (asked later : List HostPlace) (rules : ℕ) (old new : Machine) : Type 0 where
  pub ready : IsReady new
  pub holds : WorldAgrees asked rules old.world → WorldAgrees later rules new.world
  pub weight : weight new.world ≤ weight old.world + 2 ^ 80

-- Unless memory ran out, a machine is ready, and no counter has come further than its commands can have raised it.
pub record IsKept (asked : List HostPlace) (rules : ℕ) (m : Machine) (done : ℕ) (broken : Bool) : Type 0 where
  pub ready : broken ≡ false → IsReady m
  pub holds : broken ≡ false → WorldAgrees asked rules m.world
  pub weight : broken ≡ false → weight m.world ≤ done * 2 ^ 80
  pub most : broken ≡ false → most_asked asked ≤ done * 2 ^ 80

-- there are meanings of host formulas of which this holds
pub record SomeHosts (P : Hosts → Type 0) : Type 0 where
  pub hosts : Hosts
  pub is : P hosts
