-- What calls ask for, what they leave, and how they fail.
use Rattle.std.specs.Prelude.{◌≡◌, ◌⊎◌, ◌+◌, ◌*◌, ◌≤◌, ◌↔◌, ℕ, Bool, true, false, List, [], ◌∷◌, length, None, Result, IfErr, IsErrOf, OnOk}
use Rattle.std.specs.List.{All}
use Rattle.sig_base.specs.declared.value.Value.{Value}
use Rattle.signal_model.specs.Recipes.{Expression, Hosts}
use Rattle.signal_model.specs.Signals.{Signals, Stands, is_cell, is_computed, standing}
use Rattle.effect_model.specs.Acts.{host_of, host_refused}
use Rattle.effect_model.specs.Batches.{joined_by}
use Rattle.effect_model.specs.declared.how.How.TheVariants.{Set}
use Rattle.effect_model.specs.Worlds as plain
use Rattle.sig_host.specs.Hosts.{HostPlace, most_asked}
use Rattle.sig_nodes.specs.Answers.{HasFewSlots}
use Rattle.sig_graph.specs.States.{CanWear, Seen, is_given}
use Rattle.sig_owner.specs.declared.errors.OwnFault.{OwnFault}
use Rattle.sig_owner.specs.declared.errors.OwnFault.TheVariants as own
use Rattle.sig_state.specs.Batches.{Collected}
use Rattle.sig_state.specs.declared.sets.SetDone.{SetDone}
use Rattle.sig_state.specs.declared.sets.SetDone.TheVariants.{Accepted, Same}
use Rattle.sig_state.specs.Equality.{IsRuled}
use Rattle.sig_effect.specs.declared.errors.EffectFault.{EffectFault}
use Rattle.sig_effect.specs.declared.errors.EffectFault.TheVariants as fault
use Rattle.sig_effect.specs.declared.events.Event.{Event}
use Rattle.sig_effect.specs.declared.events.Event.TheVariants as event
use Rattle.sig_effect.specs.Events.{AreNamed}
use Rattle.sig_effect.specs.Stores as below
use Rattle.sig_effect.specs.Stores.{AreRuled, environment}
use Rattle.effect_world.specs.declared.world.World.{World}
use Rattle.effect_world.specs.Costs.{weight}
use Rattle.effect_world.specs.Signals.{Acts, Scene}
use Rattle.effect_world.specs.Stores.{Agrees, AreOwned, Does, IsSound}
use Rattle.effect_world.specs.Wholes.{stores_of, whole_of}

-- ---- what is asked for

-- a cell may stand there, or nothing, whose rule is one of so many
pub record CanSet (rules : ℕ) (s : Stands) : Type 0 where
  pub kind : is_computed s ≡ false
  pub ruled : IsRuled rules s

-- signals were made for all slots, and a host formula has few enough of them
pub record CanLink (g : Seen) (e : Expression) (slots : List ℕ) : Type 0 where
  pub given : All (λ n. is_given g n ≡ true) slots
  pub few : HasFewSlots e slots

-- what stands there is no cell and may get this expression of these slots: its host formula is free, and the counters have room
pub record CanRewire (asked : List HostPlace) (w : World) (id : ℕ) (e : Expression) (slots : List ℕ) : Type 0 where
  pub kind : is_cell (standing w.graph.state.signals id) ≡ false
  pub links : CanLink w.graph e slots
  pub free : host_refused (host_of e) (whole_of asked w) ≡ None
  pub worn : CanWear w.graph.state

-- ---- what is left

-- By equality rules of these slacks an act was done to the world, which used up no more than what was told stands for, and so much. No signal
-- and no watcher was made.
pub record Acted (slacks : List ℕ) (old new : Scene) (before after : Hosts → Type 0) (steps : ℕ)
    (act : plain.Environment → plain.World → plain.World) : Type 0 where
  pub does : (hosts : Hosts) → IsSound hosts old.asked old.world →
      Does hosts old.asked new.asked old.world new.world old.events new.events (act (environment hosts slacks))
  pub agrees : Agrees new.asked new.world
  pub answers : (hosts : Hosts) → before hosts → after hosts
  pub most : most_asked new.asked ≤ most_asked old.asked
  pub rules : (count : ℕ) → AreRuled count old.world.graph.state.signals → AreRuled count new.world.graph.state.signals
  pub given : new.world.graph.given ≡ old.world.graph.given
  pub made : new.world.watchers.made ≡ old.world.watchers.made
  pub worn : weight new.world + length old.events ≤ (weight old.world + length new.events) + steps
  pub told : length old.events ≤ length new.events

-- By equality rules of these slacks an act was done to signals and watchers alone, whatever is known of host formulas; it raised the counters
-- by so much at most. No signal and no watcher was made, and what is told names what was.
pub record Changed (slacks : List ℕ) (old new : World) (before after : List Event) (steps : ℕ)
    (act : plain.Environment → plain.World → plain.World) : Type 0 where
  pub acts : (hosts : Hosts) (asked : List HostPlace) → IsSound hosts asked old →
      Acts hosts asked asked old new before after (act (environment hosts slacks))
  pub agreed : (asked : List HostPlace) → below.Agrees asked (stores_of old) → below.Agrees asked (stores_of new)
  pub does : (hosts : Hosts) (asked : List HostPlace) → AreOwned old → IsSound hosts asked old →
      Does hosts asked asked old new before after (act (environment hosts slacks))
  pub agrees : (asked : List HostPlace) → Agrees asked old → Agrees asked new
  pub rules : (count : ℕ) → AreRuled count old.graph.state.signals → AreRuled count new.graph.state.signals
  pub named : AreNamed old.graph old.watchers.made before → AreNamed new.graph new.watchers.made after
  pub given : new.graph.given ≡ old.graph.given
  pub made : new.watchers.made ≡ old.watchers.made
  pub worn : new.graph.state.worn ≤ old.graph.state.worn + steps
  pub told : length before ≤ length after

-- what is told of a set where no watcher lives: that the cell was changed, where it was
abbrev pub told_unwatched : SetDone → ℕ → List Event
told_unwatched Same id = []
told_unwatched Accepted id = event.Change id Set ∷ []

-- a batch has what the set of a cell to a value collects, and as much room as before
pub record Collects (slacks : List ℕ) (s : Stands) (id : ℕ) (value : Value) (old new : Collected) : Type 0 where
  pub changed : new.changed ≡ joined_by slacks s id value old.changed
  pub room : length new.changed + new.spare ≡ length old.changed + old.spare

-- a computed has another recipe: signals and watchers alone were changed, no id was given, and what is told names what was
pub record Rewires (old new : World) (before after : List Event) (later : Signals) : Type 0 where
  pub signals : new.graph.state.signals ≡ later
  pub watchers : new.watchers ≡ old.watchers
  pub stays : below.Stays (stores_of old) (stores_of new)
  pub named : AreNamed old.graph old.watchers.made before → AreNamed new.graph new.watchers.made after

-- A signal was settled, by the meanings by which the shelf answers, and afterwards it answers by these too. Nothing was changed, what is told
-- names what was made, and no counter rose further than what was told stands for.
pub record Settled (old new : Scene) (before after : Hosts → Type 0) (id : ℕ) : Type 0 where
  pub does : (hosts : Hosts) (slacks : List ℕ) → before hosts → IsSound hosts old.asked old.world →
      Does hosts old.asked new.asked old.world new.world old.events new.events (plain.settle (environment hosts slacks) (id ∷ []))
  pub agrees : Agrees new.asked new.world
  pub answers : (hosts : Hosts) → before hosts → after hosts
  pub most : most_asked new.asked + 65 * length old.events ≤ most_asked old.asked + 65 * length new.events
  pub signals : new.world.graph.state.signals ≡ old.world.graph.state.signals
  pub given : new.world.graph.given ≡ old.world.graph.given
  pub watchers : new.world.watchers ≡ old.world.watchers
  pub named : AreNamed old.world.graph old.world.watchers.made old.events → AreNamed new.world.graph new.world.watchers.made new.events
  pub worn : new.world.graph.state.worn + length old.events ≡ old.world.graph.state.worn + length new.events

-- a signal of this id was made, the next one, and raised the counters by one
pub record MakesSignal (old new : World) (id : ℕ) : Type 0 where
  pub next : id ≡ old.graph.given
  pub given : new.graph.given ≡ old.graph.given + 1
  pub worn : new.graph.state.worn ≡ old.graph.state.worn + 1
  pub watchers : new.watchers ≡ old.watchers

-- ---- how calls fail

-- what a call is about is there where it was done; it fails as gone only where that isn't, and then this still holds; else it fails for want of
-- memory alone
abbrev pub Refuses : {A : Type 0} → Result A EffectFault → Bool → Type 0 → Type 0
Refuses result there still =
    OnOk result (there ≡ true) × (IsErrOf result fault.Gone → (there ≡ false) × still) × IfErr result (λ e. (e ≡ fault.Gone) ⊎ (e ≡ fault.NoMemory))

-- no signal is made exactly where the place is gone, or else no more fit, and then this still holds; else it fails for want of memory alone
abbrev pub RefusesSignal : {A : Type 0} → Result A EffectFault → Bool → Type 0 → Type 0 → Type 0
RefusesSignal result place full still =
    (IsErrOf result fault.Gone ↔ (place ≡ false)) × (IsErrOf result fault.Limit ↔ ((place ≡ true) × full)) ×
    IfErr result (λ e. (e ≡ fault.NoMemory) ⊎ still)

-- a thing is made where its place is open and there is room; it isn't where the place is gone, or else no more fit, and then this still holds;
-- else it fails for want of memory alone
abbrev pub RefusesThing : {A : Type 0} → Result A OwnFault → Bool → Type 0 → Type 0 → Type 0 → Type 0
RefusesThing result place room full still =
    OnOk result ((place ≡ true) × room) × (IsErrOf result own.Gone → place ≡ false) × (IsErrOf result own.Limit → full × (place ≡ true)) ×
    IfErr result (λ e. (e ≡ own.NoMemory) ⊎ still)
