-- What acts use up.
use Rattle.std.specs.Prelude.{ℕ, ◌+◌}
use Rattle.effect_world.specs.declared.world.World.{World}

-- a number that no counter of the signals is above, and how many effects were made
abbrev pub weight : World → ℕ
weight w = w.graph.state.worn + w.tables.effects_made
