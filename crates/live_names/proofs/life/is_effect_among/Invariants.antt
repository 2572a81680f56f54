use Rattle.std.proofs.Common.{◌≡◌, drop, map}
use Rattle.signal_model.specs.Signals.{is_in}
use Rattle.effect_model.specs.Worlds.{effect_numbers}
use Rattle.effect_tables.specs.Placed.{effect_of}
use Rattle.live_names.proofs.life.is_effect_among.Given as goal

-- it is none so far
abbrev pub invariant-loop-effect : goal.invariant-loop-effect
invariant-loop-effect l =
    is_in l.id (effect_numbers (map effect_of (drop l.effect-index l.effects))) ≡ is_in l.id (effect_numbers (map effect_of l.effects))
