-- An effect that is looked at.
use Rattle.std.proofs.Common.{◌≡◌, ℕ, ◌++◌, List, [], map, Option, Some, None, sym, ap, subst}
use Rattle.signal_model.specs.Recipes.{Hosts}
use Rattle.signal_model.specs.Signals.{Signals}
use Rattle.signal_model.specs.Values.{Seen, value_of}
use Rattle.effect_model.specs.Runs.{look, looked_names}
use Rattle.effect_model.specs.Worlds as plain
use Rattle.effect_model.specs.Worlds.{effect_at, settle}
use Rattle.effect_tables.specs.declared.effect.Effect.{Effect}
use Rattle.effect_tables.specs.Placed.{effect_of}
use Rattle.effect_tables.specs.Visits.{glance, to_effect}
use Rattle.sig_host.specs.Hosts.{HostPlace}
use Rattle.sig_effect.specs.Stores.{environment}
use Rattle.sig_computed.specs.declared.notes.RunNote.{RunNote}
use Rattle.sig_computed.specs.Scenes as settling
use Rattle.sig_computed.specs.Scenes.{Settles}
use Rattle.sig_effect.specs.declared.events.Event.{Event}
use Rattle.sig_effect.specs.declared.events.Event.TheVariants as event
use Rattle.effect_world.specs.declared.world.World.{World}
use Rattle.effect_world.specs.Signals.{Scene, scene}
use Rattle.effect_world.specs.Stores.{Agrees}
use Rattle.effect_world.specs.Wholes.{whole_of}
use Rattle.effect_turns.specs.Runs.{Runs}
use Rattle.effect_turns.proofs.Carried.{runs_as, runs_still, settled_runs}

-- what is kept, in other words
pub kept_settles : (old new : settling.Scene) (before after : Hosts → Type 0) (w : Signals) (k l : Option (List Seen)) → k ≡ l →
    Settles old new before after (λ hosts. looked_names (λ m. value_of hosts w m []) k) → Settles old new before after (λ hosts. looked_names (λ m. value_of hosts w m []) l)
kept_settles old new before after w k l is s = subst (λ j. Settles old new before after (λ hosts. looked_names (λ m. value_of hosts w m []) j)) is s

-- where no effect has the number, nothing is looked at
pub glance_none : (slacks : List ℕ) (x : Scene) (answers : Hosts → Type 0) (id : ℕ) → Agrees x.asked x.world →
    effect_at id (map effect_of x.world.tables.effects.items) ≡ None → Runs slacks x x answers answers (λ env. glance env id)
glance_none slacks x answers id a none =
    runs_still slacks x answers (λ env. glance env id) a
    (λ env. ap (λ o. to_effect (look env) o (whole_of x.asked x.world)) none)

-- else what that effect keeps is settled
pub glance_some : (slacks : List ℕ) (old new : World) (asked later : List HostPlace) (none notes : List RunNote) (before after : List Event) (first last : Hosts → Type 0)
    (id : ℕ) (x : Effect) → effect_at id (map effect_of old.tables.effects.items) ≡ Some (effect_of x) →
    none ≡ [] → after ≡ before ++ map event.Run notes → new.tables ≡ old.tables → new.watchers ≡ old.watchers → new.heard ≡ old.heard → Agrees asked old →
    Settles (settling.scene old.graph asked none) (settling.scene new.graph later notes) first last
    (λ hosts. looked_names (λ m. value_of hosts old.graph.state.signals m []) (effect_of x).kept) →
    Runs slacks (scene old asked before) (scene new later after) first last (λ env. glance env id)
glance_some slacks old new asked later none notes before after first last id x at empty is same watched heard a s =
    runs_as slacks (scene old asked before) (scene new later after) first last
    (λ env. settle env (looked_names (λ m. value_of env.hosts old.graph.state.signals m []) (effect_of x).kept)) (λ env. glance env id)
    (λ hosts all sound.
    let env : plain.Environment = environment hosts slacks in
    sym (ap (λ (o : Option plain.Effect). to_effect (look env) o (whole_of asked old)) at))
    (settled_runs slacks old new asked later none notes before after first last
    (λ hosts. looked_names (λ m. value_of hosts old.graph.state.signals m []) (effect_of x).kept) empty is same watched heard a s)
