use Rattle.std.proofs.Common.{subst}
use Rattle.effect_turns.specs.Stills.{Parts}
use Rattle.effect_turns.proofs.Visited.{next_is}
use Rattle.effect_turns.proofs.quiet.next_loud.Goals as goal

pub returns : goal.returns
returns c =
    next_is c.args.world.now c.args.low c.parting-first.result c.next_loud.result c.requires.tables c.requires.heard
    (subst (Parts c.args.low c.parting-first.result) c.deref.ensures.value c.parting-first.ensures) c.next_loud.ensures.on c.next_loud.ensures.passed
