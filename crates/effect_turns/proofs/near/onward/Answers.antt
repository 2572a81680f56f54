use Rattle.effect_turns.proofs.Nearby.{parted}
use Rattle.effect_turns.proofs.near.onward.Goals as goal

pub returns : goal.returns
returns c = parted c.args.low c.onward.place c.args.effects.now c.requires.rising c.onward.invariant (c.is_lower.ensures.higher c.onward-test.false)
