-- What effects keep of their runs.
use Rattle.std.specs.Prelude.{◌≡◌, ℕ, List, Some}
use Rattle.signal_model.specs.Signals.{changed}
use Rattle.signal_model.specs.Values.{Seen}
use Rattle.effect_model.specs.Worlds as plain
use Rattle.effect_model.specs.Worlds.{World}
use Rattle.effect_tables.specs.declared.effect.Effect.{Effect}
use Rattle.effect_tables.specs.Placed.{effect_of}

-- an effect that has kept these reads
abbrev pub with_reads : List Seen → plain.Effect → plain.Effect
with_reads ss x = record x { kept = Some ss }

-- the effect of a number has kept these reads
abbrev pub with_kept : ℕ → List Seen → World → World
with_kept e ss w = record w { effects = changed (λ (x : plain.Effect). x.number) e (with_reads ss) w.effects }

-- an effect has kept these reads, and all else of it is as before
pub record IsKept (ss : List Seen) (x y : Effect) : Type 0 where
  pub seen : effect_of y ≡ with_reads ss (effect_of x)
  pub id : y.id ≡ x.id
  pub row : y.row ≡ x.row
  pub script : y.script ≡ x.script
  pub path : y.path ≡ x.path
