use Rattle.std.proofs.Common.{◌-◌, arith}
use Rattle.effect_turns.proofs.Nearby.{all_before, all_none}
use Rattle.effect_turns.proofs.near.back.Goals as goal

pub returns-then-is_lower : goal.returns-then-is_lower
returns-then-is_lower c =
    let t = c.back-test.true in
    let e = c.is_lower.ensures in
    all_before c.args.low (c.back.place - 1) c.back.place c.args.effects.now c.requires (e.within c.if-is_lower.true) (e.lower c.if-is_lower.true) (omega (arith, t))

pub returns : goal.returns
returns c = all_none c.args.low c.args.effects.now
