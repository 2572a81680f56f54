-- What a flush leaves to do.
use Rattle.std.specs.Prelude.{◌≡◌, false}
use Rattle.effect_model.specs.Worlds.{Environment, World}
use Rattle.effect_model.specs.Runs.{flush}
use Rattle.effect_laws.specs.KeptWorlds.{IsKeptWorld}

-- a flush after one that wasn't refused does nothing at all: it runs nothing, tells nothing, and leaves everything as it stands
abbrev pub QuietFlushLaw : Type 0
QuietFlushLaw = (env : Environment) (w : World) → IsKeptWorld env w → (flush env w).refused ≡ false →
    flush env (flush env w).world ≡ record { world = (flush env w).world; turns = 0; refused = false }
