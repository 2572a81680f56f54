-- What a making leaves.
use Rattle.std.specs.Prelude.{◌≡◌, ℕ, Option}
use Rattle.effect_model.specs.Worlds.{World}
use Rattle.effect_tables.specs.declared.tables.Tables.{Tables}
use Rattle.effect_tables.specs.Consistency.{LeavesOut, TablesAgree}
use Rattle.effect_tables.specs.Placed.{placed}

-- Tables, where something was made: seen like this, they stand for what the act makes of what they stood for, whatever else there is. They agree,
-- and of signals this one alone, if any, may stand somewhere where it stood nowhere before.
pub record Makes (seen : World → World) (one : Option ℕ) (old new : Tables) (act : World → World) : Type 0 where
  pub does : (w : World) → seen (placed new w) ≡ seen (act (placed old w))
  pub holds : TablesAgree new
  pub signals : LeavesOut one old.store new.store
