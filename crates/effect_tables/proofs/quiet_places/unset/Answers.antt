use Rattle.std.proofs.Common.{arith}
use Rattle.effect_tables.proofs.Marks.{beyond_off, set_less, set_off}
use Rattle.effect_tables.proofs.quiet_places.unset.Goals as goal

pub returns-then-place-len-clause-less : goal.returns-then-place-len-clause-less
returns-then-place-len-clause-less c = λ p h. set_less c.args.marks.now.items c.args.place p h

pub returns-then-place-len-clause-off : goal.returns-then-place-len-clause-off
returns-then-place-len-clause-off c = set_off c.args.marks.now.items c.args.place

pub returns-else-place-len-clause-off : goal.returns-else-place-len-clause-off
returns-else-place-len-clause-off c =
    let e = c.len.ensures in
    let f = c.if-place-len.false in
    beyond_off c.args.marks.now.items c.args.place (omega (arith, e, f))
