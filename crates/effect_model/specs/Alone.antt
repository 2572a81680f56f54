-- What a body does that belongs to no effect, as that of an event's handler.
use Rattle.effect_model.specs.Acts.{set_cell}
use Rattle.effect_model.specs.Bodies.{Act, to_set, to_log}
use Rattle.effect_model.specs.Worlds.{Environment, World, logged, tell}

-- One act: a cell is set, or a value is logged. Nothing else stands in such a body, and anything else does nothing.
abbrev pub act_alone : Environment → Act → World → World
act_alone env (to_set n v) w = set_cell env n v w
act_alone env (to_log v) w = tell (logged v) w
act_alone env a w = w
