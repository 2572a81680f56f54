-- What is told is put behind what was told before, and nothing that is done rests on it.
use Rattle.std.specs.Prelude.{◌≡◌, ℕ, List, ◌++◌}
use Rattle.signal_model.specs.Recipes.{Recipe}
use Rattle.signal_model.specs.Values.{Seen}
use Rattle.sig_base.specs.declared.value.Value.{Value}
use Rattle.effect_model.specs.Owners.{Thing}
use Rattle.effect_model.specs.Bodies.{Act}
use Rattle.effect_model.specs.Worlds.{Environment, Effect, Event, World, settle}
use Rattle.effect_model.specs.Acts.{notify_of_all, set_cell, rewire_signal, take_back, dispose_thing}
use Rattle.effect_model.specs.Batches.{Batch, set_quietly, abort}
use Rattle.effect_model.specs.Runs.{do_act, do_acts, keep_reads, run_effect, Turned, turn, Flushed, flush}

-- a world that told these before
abbrev pub behind : List Event → World → World
behind es w = record w { told = es ++ w.told }

-- whatever was told before, the act is the same, and what it tells is put behind that
pub record OnlyTells (act : World → World) : Type 0 where
  pub same : (es : List Event) (w : World) → act (behind es w) ≡ behind es (act w)

-- a turn and a flush, of a world that told these before
abbrev pub turned_behind : List Event → Turned → Turned
turned_behind es t = record t { world = behind es t.world }

abbrev pub flushed_behind : List Event → Flushed → Flushed
flushed_behind es f = record f { world = behind es f.world }

-- so it is with settling, with each change and each end, with each act of a run and with a whole run
pub record AllOnlyTell : Type 0 where
  pub settling : (env : Environment) (names : List ℕ) → OnlyTells (settle env names)
  pub setting : (env : Environment) (n : ℕ) (v : Value) → OnlyTells (set_cell env n v)
  pub setting_quietly : (env : Environment) (n : ℕ) (v : Value) → OnlyTells (set_quietly env n v)
  pub restoring : (b : Batch) → OnlyTells (abort b)
  pub notifying : (ns : List ℕ) → OnlyTells (notify_of_all ns)
  pub rewiring : (n : ℕ) (r : Recipe) → OnlyTells (rewire_signal n r)
  pub taking_back : (env : Environment) (t : Thing) → OnlyTells (take_back env t)
  pub disposing : (env : Environment) (t : Thing) → OnlyTells (dispose_thing env t)
  pub acting : (env : Environment) (e k : ℕ) (a : Act) → OnlyTells (do_act env e k a)
  pub acting_on : (env : Environment) (e k : ℕ) (as' : List Act) → OnlyTells (do_acts env e k as')
  pub keeping : (e : ℕ) (ss : List Seen) → OnlyTells (keep_reads e ss)
  pub running : (env : Environment) (x : Effect) → OnlyTells (run_effect env x)

-- and with turns and flushes
abbrev pub TurnsOnlyTell : Type 0
TurnsOnlyTell = (env : Environment) (es : List Event) (w : World) → turn env (behind es w) ≡ turned_behind es (turn env w)

abbrev pub FlushesOnlyTell : Type 0
FlushesOnlyTell = (env : Environment) (es : List Event) (w : World) → flush env (behind es w) ≡ flushed_behind es (flush env w)
