use Rattle.std.proofs.Common.{sym, ◌∙◌, arith}
use Rattle.effect_turns.proofs.Nearby.{at_place, stands}
use Rattle.effect_turns.proofs.near.effect_here.Goals as goal

pub returns-then-eq-clause-lives : goal.returns-then-eq-clause-lives
returns-then-eq-clause-lives c =
    stands 0 c.args.id c.args.place c.args.effects.now c.index-effects-place.result c.requires (omega arith) c.index-effects-place.is (sym c.eq.ensures ∙ c.if-eq.true)

pub returns-then-eq-clause-place : goal.returns-then-eq-clause-place
returns-then-eq-clause-place c = at_place c.args.place c.args.effects.now c.index-effects-place.result (omega arith) c.index-effects-place.is
