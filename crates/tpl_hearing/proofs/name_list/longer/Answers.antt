use Rattle.std.proofs.Common.{arith, ap, ◌∙◌}
use Rattle.tpl_hearing.proofs.Paired.{put_listed, put_new}
use Rattle.tpl_hearing.proofs.name_list.longer.Goals as goal

pub loop-place-init : goal.loop-place-init
loop-place-init c = record { front = c.in_ok-own.ensures.empty; low = omega arith }

pub loop-place-preserved : goal.loop-place-preserved
loop-place-preserved c =
    let low = c.loop-place-test.true in
    record {
      front = c.in_ok-insert.ensures.keys ∙ put_listed c.args.names.now.keys c.loop-place.own.keys c.loop-place.place c.index.result.now c.len.ensures.unique
          c.index.ensures c.loop-place.invariant.front;
      low = omega (arith, low);
    }

pub returns : goal.returns
returns c =
    let low = c.loop-place.invariant.low in
    let high = c.loop-place-test.false in
    ap (λ s. s.keys) c.in_ok-shared.ensures.ok ∙ c.in_ok-insert-2.ensures.keys
    ∙ put_new c.args.names.now.keys c.loop-place.own.keys c.loop-place.place c.args.count c.args.id c.requires.new c.loop-place.invariant.front (omega (arith, low, high))
