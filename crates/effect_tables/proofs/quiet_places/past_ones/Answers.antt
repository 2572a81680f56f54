use Rattle.std.proofs.Common.{false, sym, ◌∙◌, arith}
use Rattle.effect_tables.proofs.Marks.{mark_alone, mark_at, marks_on}
use Rattle.effect_tables.proofs.quiet_places.past_ones.Goals as goal

pub loop-place-preserved : goal.loop-place-preserved
loop-place-preserved c =
    let v = c.loop-place.invariant in
    let o = v.on in
    let t = c.loop-place-test.true in
    record {
      on = omega (arith, o);
      passed = marks_on c.args.from c.loop-place.place 1 c.args.marks.now v.passed
          (mark_alone c.loop-place.place c.args.marks.now (sym (mark_at c.args.marks.now c.loop-place.place false (omega (arith, t))) ∙ c.if-marks-place.true));
    }
