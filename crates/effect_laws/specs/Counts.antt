-- How many signals, owners, pages and watchers were made.
use Rattle.std.specs.Prelude.{◌≡◌, ℕ}
use Rattle.sig_base.specs.declared.value.Value.{Value}
use Rattle.signal_model.specs.Recipes.{Recipe}
use Rattle.effect_model.specs.Owners.{Thing}
use Rattle.effect_model.specs.Worlds.{Counts, Environment, Effect, World, settle}
use Rattle.effect_model.specs.Acts.{set_cell, rewire_signal, take_back, dispose_thing}
use Rattle.effect_model.specs.Runs.{run_effect, flush}
use Rattle.std.specs.Prelude.{List}

-- how many of each kind were made, effects aside
abbrev pub others : World → Counts
others w = record (w.made) { effects = 0 }

-- an act makes nothing but effects
pub record KeepsCounts (act : World → World) : Type 0 where
  pub same : (w : World) → others (act w) ≡ others w

-- so it is with settling, with each change and each end, and with a run
pub record AllKeepCounts : Type 0 where
  pub settling : (env : Environment) (names : List ℕ) → KeepsCounts (settle env names)
  pub setting : (env : Environment) (n : ℕ) (v : Value) → KeepsCounts (set_cell env n v)
  pub rewiring : (n : ℕ) (r : Recipe) → KeepsCounts (rewire_signal n r)
  pub taking_back : (env : Environment) (t : Thing) → KeepsCounts (take_back env t)
  pub disposing : (env : Environment) (t : Thing) → KeepsCounts (dispose_thing env t)
  pub running : (env : Environment) (x : Effect) → KeepsCounts (run_effect env x)

-- and with flushes
abbrev pub FlushesKeepCounts : Type 0
FlushesKeepCounts = (env : Environment) → KeepsCounts (λ w. (flush env w).world)
