-- What stands under the numbers of signals.
use Rattle.std.specs.Prelude.{◌≡◌, ℕ, false, List}
use Rattle.sig_base.specs.declared.value.Value.{Value}
use Rattle.signal_model.specs.Recipes.{Recipe}
use Rattle.signal_model.specs.Signals.{Signals, Stands, is_computed, standing, is_cell}
use Rattle.effect_model.specs.Owners.{Thing}
use Rattle.effect_model.specs.Worlds.{Environment, Effect, World, settle}
use Rattle.effect_model.specs.Acts.{set_cell, rewire_signal, take_back, dispose_thing}
use Rattle.effect_model.specs.Batches.{Batch, abort, commit, set_quietly}
use Rattle.effect_model.specs.Runs.{run_effect, flush}

-- what was no cell is none, and what was no computed is none
pub record IsKindOf (was now : Stands) : Type 0 where
  pub cell : is_cell was ≡ false → is_cell now ≡ false
  pub computed : is_computed was ≡ false → is_computed now ≡ false

-- so it is under each number
pub record AreKindsOf (before after : Signals) : Type 0 where
  pub each : (x : ℕ) → IsKindOf (standing before x) (standing after x)

-- an act leaves it so
pub record KeepsKinds (act : World → World) : Type 0 where
  pub kept : (w : World) → AreKindsOf w.signals (act w).signals

-- so it is with settling, with each change and each end, with a run, and with what is done in a batch and ends it
pub record AllKeepKinds : Type 0 where
  pub settling : (env : Environment) (names : List ℕ) → KeepsKinds (settle env names)
  pub setting : (env : Environment) (n : ℕ) (v : Value) → KeepsKinds (set_cell env n v)
  pub rewiring : (n : ℕ) (r : Recipe) → KeepsKinds (rewire_signal n r)
  pub taking_back : (env : Environment) (t : Thing) → KeepsKinds (take_back env t)
  pub disposing : (env : Environment) (t : Thing) → KeepsKinds (dispose_thing env t)
  pub running : (env : Environment) (x : Effect) → KeepsKinds (run_effect env x)
  pub setting_quietly : (env : Environment) (n : ℕ) (v : Value) → KeepsKinds (set_quietly env n v)
  pub committing : (env : Environment) (b : Batch) → KeepsKinds (commit env b)
  pub aborting : (b : Batch) → KeepsKinds (abort b)

-- and with flushes
abbrev pub FlushesKeepKinds : Type 0
FlushesKeepKinds = (env : Environment) → KeepsKinds (λ w. (flush env w).world)
