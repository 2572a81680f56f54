-- Cells of which no change is told.
use Rattle.std.specs.Prelude.{◌≡◌, ℕ, ◌==◌, ◌||◌, Bool, false, List, [], ◌∷◌}
use Rattle.sig_base.specs.declared.value.Value.{Value}
use Rattle.signal_model.specs.Signals.{Cell, IsCell, standing}
use Rattle.effect_model.specs.Worlds.{Environment, Event, changed_signal, World}
use Rattle.effect_model.specs.Acts.{set_cell}
use Rattle.effect_model.specs.Batches.{set_quietly}
use Rattle.effect_model.specs.Runs.{flush}

-- whether a change of a signal is among what is told
abbrev pub tells_change : ℕ → List Event → Bool
tells_change n [] = false
tells_change n (changed_signal m how ∷ es) = n == m || tells_change n es
tells_change n (e ∷ es) = tells_change n es

-- a cell of which an act tells no change stands as it did
pub record KeepsCells (act : World → World) : Type 0 where
  pub still : (w : World) (n : ℕ) (c : Cell) → tells_change n (act w).told ≡ false → standing w.signals n ≡ IsCell c →
      standing (act w).signals n ≡ IsCell c

-- an act leaves each cell but that of a name as it stood
pub record KeepsOthers (n : ℕ) (act : World → World) : Type 0 where
  pub still : (w : World) (m : ℕ) (c : Cell) → (m == n) ≡ false → standing w.signals m ≡ IsCell c → standing (act w).signals m ≡ IsCell c

-- the second is so with sets, in a batch and outside, and the first with flushes
pub record AllKeepCells : Type 0 where
  pub setting : (env : Environment) (n : ℕ) (v : Value) → KeepsOthers n (set_cell env n v)
  pub setting_quietly : (env : Environment) (n : ℕ) (v : Value) → KeepsOthers n (set_quietly env n v)
  pub flushing : (env : Environment) → KeepsCells (λ w. (flush env w).world)
