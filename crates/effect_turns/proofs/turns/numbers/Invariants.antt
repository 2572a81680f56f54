use Rattle.std.proofs.Common.{◌≡◌, map, take}
use Rattle.effect_model.specs.Worlds.{effect_numbers}
use Rattle.effect_tables.specs.Placed.{effect_of}
use Rattle.effect_turns.proofs.turns.numbers.Given as goal

-- the numbers so far
abbrev pub invariant-loop-effect : goal.invariant-loop-effect
invariant-loop-effect l = l.ids.items ≡ effect_numbers (map effect_of (take l.effect-index l.effects))
