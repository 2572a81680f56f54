use Rattle.std.proofs.Common.{◌+◌, length, sym, ap, subst, take, arith}
use Rattle.std.proofs.lemmas.List.{take_all}
use Rattle.tpl_hearing.specs.Heard.{Outcomes}
use Rattle.tpl_hearing.specs.Unseen.{AreCellsBetween}
use Rattle.tpl_hearing.proofs.Names.{heard_as, then_heard}
use Rattle.tpl_hearing.proofs.Paired.{count_paired}
use Rattle.tpl_hearing.proofs.Stood.{heard_none, heard_some, stand_behind, stood_first, stood_next}
use Rattle.tpl_hearing.proofs.again.hear_all_again.Goals as goal

pub standing_up_to-place-requires-clause-from : goal.standing_up_to-place-requires-clause-from
standing_up_to-place-requires-clause-from g c =
    let most = c.requires.cells.most in
    let all = ap length c.lists.ensures.pairs in
    let long = count_paired c.lists.result.0.now c.lists.result.1.now c.lists.ensures.within in omega (arith, most, all, long)

pub loop-place-init : goal.loop-place-init
loop-place-init g c =
    let s = c.standing_up_to-place.ensures in
    let most = s.stand.most in
    let all = ap length c.lists.ensures.pairs in
    let count = c.count-count.ensures.count in
    let w = c.args.graph.now.state.signals in
    let cells = subst (λ (h : Outcomes). AreCellsBetween w h 0 c.args.from) (sym c.lists.ensures.pairs) c.requires.cells in
    let stand = stand_behind w c.args.graph.now.state.memos _ 0 c.args.from c.standing_up_to-place.result cells s.stand in
    record {
      after = rw s.same (stood_first _ _ _ c.args.before.now c.standing_up_to-place.result c.requires.can.idle c.lists.ensures.pairs stand);
      can = rw s.same c.requires.can;
      counted = c.requires.counted;
      most = omega (arith, most, all, count);
    }

pub standing_up_to-next-requires-clause-from : goal.standing_up_to-next-requires-clause-from
standing_up_to-next-requires-clause-from g c =
    let low = c.loop-place-test.true in
    let count = c.count-count.ensures.count in
    let all = ap length c.lists.ensures.pairs in
    let long = count_paired c.lists.result.0.now c.lists.result.1.now c.lists.ensures.within in omega (arith, low, count, all, long)

pub returns-in-Some-clause-after : goal.returns-in-Some-clause-after
returns-in-Some-clause-after g c =
    then_heard _ _ _ _ _ _ _ _ _ c.loop-place.invariant.after
    (heard_some _ _ _ _ _ (take (c.loop-place.place + 1) c.args.before.now) _ c.in-Some.hearing c.in-Some.is c.in_ok-hearing.ensures.after)

pub loop-place-preserved : goal.loop-place-preserved
loop-place-preserved g c =
    let s = c.standing_up_to-next.ensures in
    let e = c.in_ok-hearing.ensures in
    let most = s.stand.most in
    let all = ap length c.lists.ensures.pairs in
    let count = c.count-count.ensures.count in
    record {
      after = then_heard _ _ _ _ _ _ _ _ _ c.loop-place.invariant.after
          (then_heard _ _ _ _ _ _ _ _ _
          (heard_none _ _ _ _ _ (take (c.loop-place.place + 1) c.args.before.now) _ c.in_default.is e.after)
          (rw s.same (stood_next _ _ _ c.args.before.now (c.loop-place.place + 1) c.standing_up_to-next.result e.can.idle c.lists.ensures.pairs s.stand)));
      can = rw s.same e.can;
      counted = e.counted;
      most = omega (arith, most, all, count);
    }

pub loop-place-smaller : goal.loop-place-smaller
loop-place-smaller g c =
    let least = c.standing_up_to-next.ensures.stand.least in
    let low = c.loop-place-test.true in omega (arith, least, low)

pub returns-clause-after : goal.returns-clause-after
returns-clause-after g c =
    let high = c.loop-place-test.false in
    let long = c.count-count.ensures.count in
    heard_as _ _ _ _ _ _ _ (take_all c.loop-place.place c.args.before.now (omega (arith, high, long))) c.loop-place.invariant.after
