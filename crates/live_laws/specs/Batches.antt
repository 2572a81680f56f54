-- What items do while a batch is open, and what its end tells and leaves.
use Rattle.std.specs.Prelude.{◌≡◌, ℕ, Bool, true, false, List, [], ◌∷◌, ◌++◌, Some, None}
use Rattle.std.specs.List.{AllByRecursion}
use Rattle.std.specs.Map.{keys_of}
use Rattle.sig_base.specs.declared.value.Value.{Value}
use Rattle.signal_model.specs.Changes.{no_memos, no_signals}
use Rattle.signal_model.specs.Signals.{Cell, IsCell, Signals, is_in, standing}
use Rattle.effect_model.specs.Worlds.{Environment, World, at_rest, changed_signal}
use Rattle.effect_model.specs.Acts.{are_alike, frozen_by, notified_by_any}
use Rattle.effect_model.specs.Batches.{Batch, abort, joined, net_of}
use Rattle.effect_model.specs.Owners.{listed}
use Rattle.effect_model.specs.declared.how.How.TheVariants.{Set}
use Rattle.live_cmd.specs.declared.command.Bare.TheVariants as bares
use Rattle.live_cmd.specs.declared.command.Command.{Command}
use Rattle.live_cmd.specs.declared.command.Command.TheVariants as command
use Rattle.live_cmd.specs.declared.command.Item.{Item}
use Rattle.live_cmd.specs.declared.command.Item.TheVariants as item
use Rattle.live_entries.specs.declared.entry.Entry.{Entry}
use Rattle.live_entries.specs.declared.entry.Entry.TheVariants as entry
use Rattle.live_model.specs.Journals.{noting}
use Rattle.live_model.specs.Machine.{Machine, is_ending, reached, refusal_of, step}
use Rattle.live_model.specs.Output.{entries_from, machine_after}
use Rattle.live_laws.specs.Refusals.{IsChange, freezing, notices, valued, warned}

-- ---- a change while it is open

-- The change of a cell stands and is noted, nobody is notified, and the cell joins the batch with its value before, unless it is there.
abbrev pub BatchChangeLaw : Type 0
BatchChangeLaw = (env : Environment) (m : Machine) (b : Batch) (c : Command) (i : ℕ) (v : Value) (x : Cell) → m.world.told ≡ [] → m.batch ≡ Some b →
    refusal_of env.slacks m c ≡ None → IsChange m c i v → standing m.world.signals i ≡ IsCell x → are_alike env.slacks x.rule x.value v ≡ false →
    step env m (item.Do c) ≡ reached (record m {
      world = at_rest (valued i v m.world);
      batch = Some (joined i x.value b);
      journal = noting (changed_signal i Set ∷ []) m.journal;
    }) []

-- ---- a commit

-- The batch is ended and its changes stand. Of the cells whose values as it began and now are unlike is told together: each watcher that is
-- notified is told once and is waiting, those who are frozen are told behind them, and nothing else is changed.
abbrev pub CommitLaw : Type 0
CommitLaw = (env : Environment) (m : Machine) (b : Batch) → m.world.told ≡ [] → m.batch ≡ Some b →
    let ns = net_of env.slacks m.world.signals b in
    let xs = notified_by_any m.world.signals m.world.memos ns m.world.watchers in
    step env m (item.Do (command.Bare bares.Commit))
    ≡ reached (record m { world = at_rest (warned ns m.world); batch = None }) (notices m.labels xs ++ freezing m.labels (frozen_by xs))

-- ---- an abort

-- The batch is ended, its cells have their earlier values back, which is noted, and nobody is notified.
abbrev pub AbortLaw : Type 0
AbortLaw = (env : Environment) (m : Machine) (b : Batch) → m.world.told ≡ [] → m.batch ≡ Some b →
    step env m (item.Do (command.Bare bares.Abort))
    ≡ reached (record m { world = at_rest (abort b m.world); batch = None; journal = noting (abort b m.world).told m.journal }) []

-- ---- from its beginning to its end

-- a batch that begins
abbrev pub begins : Item
begins = item.Do (command.Bare bares.Begin)

-- and one that is aborted
abbrev pub aborts : Item
aborts = item.Do (command.Bare bares.Abort)

-- whether an item would end a batch
abbrev pub is_end : Item → Bool
is_end (item.Do c) = is_ending c
is_end (item.Refused r) = false

-- whether an entry tells that a watcher is notified
abbrev pub is_notice : Entry → Bool
is_notice (entry.Notify w) = true
is_notice _ = false

-- items that tell of no notification
abbrev pub AreUntold : Environment → Machine → List Item → Type 0
AreUntold env m is = AllByRecursion (λ (e : Entry). is_notice e ≡ false) (entries_from env m is)

-- a world without its signals and what is kept of them, and without what was told and what stands at the top and can't own
abbrev pub unsignalled : World → World
unsignalled w = record w { signals = no_signals; memos = no_memos; host_states = []; owned = listed w.owned; told = [] }

-- the rest of a machine is what it has beside a batch, a journal and these
abbrev pub rest_of : Machine → Machine
rest_of m = record m { world = unsignalled m.world; batch = None; journal = None }

-- a cell stood there with that value
abbrev pub IsBegun : Signals → (ℕ × Value) → Type 0
IsBegun w p = (x : Cell) × (standing w p.0 ≡ IsCell x) × (x.value ≡ p.1)

-- After items that don't end it, the batch has each cell that was changed, with its value as the batch began; all other signals stand as they
-- did, so does the rest of the machine, and nobody was notified.
pub record Collects (env : Environment) (m : Machine) (is : List Item) : Type 0 where
  pub batch : Batch
  pub stays : (machine_after env m is).batch ≡ Some batch
  pub begun : AllByRecursion (IsBegun m.world.signals) batch
  pub others : (n : ℕ) → is_in n (keys_of batch) ≡ false → standing (machine_after env m is).world.signals n ≡ standing m.world.signals n
  pub rest : rest_of (machine_after env m is) ≡ rest_of m
  pub untold : AreUntold env m is

-- so it is from its beginning on
abbrev pub CollectsLaw : Type 0
CollectsLaw = (env : Environment) (m : Machine) (is : List Item) → m.world.told ≡ [] → m.batch ≡ None →
    AllByRecursion (λ (i : Item). is_end i ≡ false) is → Collects env m (begins ∷ is)

-- A batch that is aborted leaves nothing behind but what was evaluated and noted in it: under each name stands what stood there as it began,
-- so does the rest of the machine, and nobody was notified.
pub record LeavesNothing (env : Environment) (m : Machine) (is : List Item) : Type 0 where
  pub signals : (n : ℕ) → standing (machine_after env m is).world.signals n ≡ standing m.world.signals n
  pub rest : rest_of (machine_after env m is) ≡ rest_of m
  pub untold : AreUntold env m is
  pub ended : (machine_after env m is).batch ≡ None

-- So it is with any items between the beginning and the abort, none of which would end the batch.
abbrev pub GivenBackLaw : Type 0
GivenBackLaw = (env : Environment) (m : Machine) (is : List Item) → m.world.told ≡ [] → m.batch ≡ None →
    AllByRecursion (λ (i : Item). is_end i ≡ false) is → LeavesNothing env m (begins ∷ is ++ aborts ∷ [])
