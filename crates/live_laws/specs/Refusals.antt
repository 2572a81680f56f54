-- What refused items leave.
use Rattle.std.specs.Prelude.{◌≡◌, ℕ, true, false, List, [], ◌∷◌, ◌++◌, map, Option, Some, None}
use Rattle.std.specs.List.{filter}
use Rattle.sig_base.specs.Values.{scalar_value}
use Rattle.sig_base.specs.declared.value.Value.{Value}
use Rattle.sig_base.specs.declared.value.Value.TheVariants as value
use Rattle.signal_model.specs.Signals.{Cell, IsCell, is_in, standing}
use Rattle.signal_model.specs.Changes.{after_change, with_value}
use Rattle.effect_model.specs.Worlds.{Environment, Watcher, World, at_rest, changed_signal}
use Rattle.effect_model.specs.Acts.{are_alike, frozen_by, is_notified_by_any, notified_by, waiting_if}
use Rattle.effect_model.specs.Runs.{flush}
use Rattle.effect_model.specs.declared.how.How.TheVariants.{Set}
use Rattle.live_cmd.specs.declared.command.Command.{Command}
use Rattle.live_cmd.specs.declared.command.Bare.TheVariants as bares
use Rattle.live_cmd.specs.declared.command.Command.TheVariants as command
use Rattle.live_cmd.specs.declared.command.Item.{Item}
use Rattle.live_cmd.specs.declared.command.Item.TheVariants as item
use Rattle.live_entries.specs.declared.entry.Entry.{Entry}
use Rattle.live_entries.specs.declared.entry.Entry.TheVariants as entry
use Rattle.live_entries.specs.declared.refusal.Refusal.{Refusal}
use Rattle.live_entries.specs.declared.refusal.Refusal.TheVariants as refusal
use Rattle.live_model.specs.Journals.{noting}
use Rattle.live_model.specs.Labels.{Labels, name_at}
use Rattle.live_model.specs.Machine.{Machine, acted_on_pages, refusal_of, step, reached}
use Rattle.live_model.specs.Names.{number_of}
use Rattle.live_model.specs.Pages.{Page}
use Rattle.live_model.specs.Rows.{edited, rows_at}

-- ---- before it does anything

-- why an item is refused before it does anything, if it is: for its text, or for what it says
abbrev pub why_refused : List ℕ → Machine → Item → Option Refusal
why_refused slacks m (item.Do c) = refusal_of slacks m c
why_refused slacks m (item.Refused r) = Some r

-- such an item tells the one refusal, and leaves all as it was
abbrev pub RefusedLaw : Type 0
RefusedLaw = (env : Environment) (m : Machine) (i : Item) (r : Refusal) → why_refused env.slacks m i ≡ Some r →
    step env m i ≡ reached m (entry.Error r ∷ [])

-- ---- a change of which somebody can't be told

-- a command gives the cell of this number this value
abbrev pub IsChange : Machine → Command → ℕ → Value → Type 0
IsChange m (command.Set n s) i v = (number_of m.names n ≡ i) × (scalar_value s ≡ v)
IsChange m (command.Edit n e) i v = (number_of m.names n ≡ i) × (value.Rows (edited e (rows_at m.world.signals (number_of m.names n))) ≡ v)
IsChange m c i v = ⊥

-- who is notified of it, in order of making
abbrev pub notified_of : World → ℕ → Value → List Watcher
notified_of w i v = notified_by (with_value w.signals i v) (after_change w.memos i) i w.watchers

-- the cell has the value
abbrev pub valued : ℕ → Value → World → World
valued i v w = record w { signals = with_value w.signals i v; memos = after_change w.memos i }

-- who is notified of changes of these cells is waiting
abbrev pub warned : List ℕ → World → World
warned ns w = record w { watchers = map (waiting_if (is_notified_by_any w.signals w.memos ns)) w.watchers }

-- the cell has the value, and who is notified is waiting
abbrev pub changed_to : ℕ → Value → World → World
changed_to i v w = warned (i ∷ []) (valued i v w)

-- each who is notified is told
abbrev pub notices : Labels → List Watcher → List Entry
notices labels xs = map (λ (x : Watcher). entry.Notify (name_at labels.watchers x.number)) xs

-- those are told together whose notification tries a command, which is refused; where there are none, nothing is
abbrev pub freezing : Labels → List ℕ → List Entry
freezing labels [] = []
freezing labels (n ∷ ns) = entry.Error (refusal.Frozen (map (name_at labels.watchers) (n ∷ ns))) ∷ []

-- Where no batch is open, the change of a cell stands and is noted, whoever is told of it, and nothing else is changed but that the notified
-- watchers are waiting.
abbrev pub ChangeLaw : Type 0
ChangeLaw = (env : Environment) (m : Machine) (c : Command) (i : ℕ) (v : Value) (x : Cell) → m.world.told ≡ [] → m.batch ≡ None →
    refusal_of env.slacks m c ≡ None → IsChange m c i v → standing m.world.signals i ≡ IsCell x → are_alike env.slacks x.rule x.value v ≡ false →
    step env m (item.Do c) ≡ reached (record m { world = at_rest (changed_to i v m.world); journal = noting (changed_signal i Set ∷ []) m.journal })
    (notices m.labels (notified_of m.world i v) ++ freezing m.labels (frozen_by (notified_of m.world i v)))

-- ---- a refused flush

-- A flush that is refused leaves all as its turns left it: the pages that still live are as they were before, and the refusal is told last.
pub record LeavesPages (env : Environment) (m : Machine) : Type 0 where
  pub done : step env m (item.Do (command.Bare bares.Flush))
      ≡ (let t = acted_on_pages m (flush env m.world).world in reached t.machine (t.entries ++ entry.Error refusal.Turns ∷ []))
  pub pages : (step env m (item.Do (command.Bare bares.Flush))).machine.pages
      ≡ filter (λ (p : Page). is_in p.number (flush env m.world).world.pages) m.pages

-- So it is with each flush that is refused for its turns. While a batch is open a flush makes none, since it is refused for that before.
abbrev pub RefusedFlushLaw : Type 0
RefusedFlushLaw = (env : Environment) (m : Machine) → m.batch ≡ None → (flush env m.world).refused ≡ true → LeavesPages env m
