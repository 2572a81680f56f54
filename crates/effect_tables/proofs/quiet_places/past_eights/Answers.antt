use Rattle.std.proofs.Common.{arith}
use Rattle.effect_tables.proofs.Marks.{marks_on}
use Rattle.effect_tables.proofs.quiet_places.past_eights.Goals as goal

pub passing-preserved : goal.passing-preserved
passing-preserved c =
    let v = c.passing.invariant in
    let o = v.on in
    record {
      on = omega (arith, o);
      passed = marks_on c.args.from c.passing.place 8 c.args.marks.now v.passed (c.are_eight.ensures c.if-not-are_eight.false);
    }
