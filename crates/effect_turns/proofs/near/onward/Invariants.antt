use Rattle.std.proofs.Common.{◌-◌, length}
use Rattle.effect_turns.specs.Stills.{AllLower}
use Rattle.effect_turns.proofs.near.onward.Given as goal

-- before the place all are lower
abbrev pub invariant-onward : goal.invariant-onward
invariant-onward l = AllLower l.low l.place l.effects

abbrev pub decreases-onward : goal.decreases-onward
decreases-onward l = length l.effects - l.place
