use Rattle.std.proofs.Common.{arith}
use Rattle.std.specs.List.{zip}
use Rattle.tpl_hearing.specs.Unseen.{IsCellAs}
use Rattle.tpl_hearing.proofs.Paired.{count_paired}
use Rattle.tpl_hearing.proofs.Stood.{each_more}
use Rattle.tpl_hearing.proofs.again.numbers_up_to.Goals as goal

pub loop-place-init : goal.loop-place-init
loop-place-init c = record { low = omega arith; each = λ i n o le lt. absurd (omega (arith, le, lt)) }

pub loop-place-preserved : goal.loop-place-preserved
loop-place-preserved c =
    let w = c.args.graph.now.state.signals in
    let low = c.loop-place.invariant.low in
    record {
      low = omega (arith, low);
      each = each_more (IsCellAs w) (zip c.args.ids.now c.args.outcomes.now) c.args.from c.loop-place.place c.pair_at-id.result.0 c.pair_at-id.result.1.now
          c.loop-place.invariant.each c.pair_at-id.ensures (c.is_number_as.ensures c.if-not-is_number_as.false);
    }

pub returns-then-not-is_number_as : goal.returns-then-not-is_number_as
returns-then-not-is_number_as c =
    let low = c.loop-place-test.true in
    let long = count_paired c.args.ids.now c.args.outcomes.now c.requires.within in
    record { least = c.loop-place.invariant.low; most = omega (arith, low, long); each = c.loop-place.invariant.each }

pub returns : goal.returns
returns c =
    let high = c.loop-place-test.false in
    let from = c.requires.from in
    let long = count_paired c.args.ids.now c.args.outcomes.now c.requires.within in
    record {
      least = omega (arith, from);
      most = omega (arith, long);
      each = λ i n o le lt at. c.loop-place.invariant.each i n o le (omega (arith, lt, high)) at;
    }
