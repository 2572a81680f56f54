use Rattle.std.proofs.Common.{◌≡◌, ◌++◌, map, replicate, sym, ap, ◌∙◌, arith}
use Rattle.std.proofs.lemmas.List.{append-nil}
use Rattle.tpl_model.specs.KeptLines.Changes.{changed, stays}
use Rattle.tpl_kept.proofs.Renewals.Nameless.{stays_put}
use Rattle.tpl_kept.proofs.renewing.staying.put_stays.Goals as goal

pub loop-put-init : goal.loop-put-init
loop-put-init c =
    let room = c.in_ok-reserve.ensures.ok in (
      omega (arith, room),
      ap (map changed) c.in_ok-reserve.ensures.items ∙ sym (append-nil (map changed c.args.changes.now.items)),
    )

pub push_reserved-requires : goal.push_reserved-requires
push_reserved-requires c =
    let room = c.loop-put.invariant.0 in
    let more = c.loop-put-test.true in
    omega (arith, room, more)

pub loop-put-preserved : goal.loop-put-preserved
loop-put-preserved c =
    let room = c.loop-put.invariant.0 in
    let more = c.loop-put-test.true in
    let len = c.push_reserved.ensures.len in
    let capacity = c.push_reserved.ensures.capacity in (
      omega (arith, room, more, len, capacity),
      stays_put changed c.args.changes.now.items c.loop-put.changes.items c.push_reserved.new.self.items c.stays.result c.loop-put._put
          c.loop-put.invariant.1 c.push_reserved.ensures.items c.stays.ensures,
    )

pub returns : goal.returns
returns c =
    let all : c.loop-put._put ≡ c.args.count = omega arith in
    c.loop-put.invariant.1 ∙ ap (λ z. map changed c.args.changes.now.items ++ replicate z stays) all
