use Rattle.std.proofs.Common.{sym, ap, arith}
use Rattle.effect_tables.specs.declared.effect.Effect.{Effect}
use Rattle.effect_turns.proofs.Nearby.{higher_here, stands_there}
use Rattle.effect_turns.proofs.near.id_below.Goals as goal

pub returns-then-number-bound-clause-there : goal.returns-then-number-bound-clause-there
returns-then-number-bound-clause-there c =
    let l = c.if-place-effects.false in
    stands_there c.args.place c.args.effects.now c.index-effects-place.result _ (omega (arith, l)) c.index-effects-place.is (ap (λ (x : Effect). x.id) (sym c.index-effects-place.is))

pub returns-clause-none : goal.returns-clause-none
returns-clause-none c =
    let l = c.if-place-effects.false in
    let h = c.if-number-bound.false in
    let n = c.number.ensures in
    higher_here c.args.bound c.args.place c.args.effects.now c.index-effects-place.result (omega (arith, l)) c.index-effects-place.is
    (let e = ap (λ (x : Effect). x.id) c.index-effects-place.is in omega (arith, h, n, e))
