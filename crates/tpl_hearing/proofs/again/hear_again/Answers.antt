use Rattle.tpl_hearing.proofs.Compared.{as_before}
use Rattle.tpl_hearing.proofs.Names.{nothing_heard, then_heard}
use Rattle.tpl_hearing.proofs.HeardAgain.{none_again, other_now, same_again}
use Rattle.tpl_hearing.proofs.again.hear_again.Goals as goal

pub loop-id-init : goal.loop-id-init
loop-id-init g c = record {
  same = none_again c.args.before.now c.args.hearing.now.heard;
  after = nothing_heard _ _ c.args.hearing.now.heard c.requires.can.idle;
  can = c.requires.can;
  counted = c.requires.counted;
  compared = c.requires.compared;
  last = tt;
}

pub returns-then-not-branch-clause-again : goal.returns-then-not-branch-clause-again
returns-then-not-branch-clause-again g c =
    let h = c.in_ok-hear_next.ensures in
    other_now c.args.before.now c.args.ids.now c.loop-id.id-index c.id-item.result c.args.hearing.now.heard c.loop-id.hearing.heard c.hear_next.new.hearing.heard
    (record { inside = c.loop-id-test.true; name = c.id-item.is; same = c.loop-id.invariant.same; grows = h.after.grows; joins = h.names })

pub returns-then-not-branch-clause-after : goal.returns-then-not-branch-clause-after
returns-then-not-branch-clause-after g c = then_heard _ _ _ _ _ _ _ _ _ c.loop-id.invariant.after c.in_ok-hear_next.ensures.after

pub loop-id-preserved : goal.loop-id-preserved
loop-id-preserved g c =
    let h = c.in_ok-hear_next.ensures in
    record {
      same = same_again c.args.before.now c.args.ids.now c.loop-id.id-index c.id-item.result c.args.hearing.now.heard c.loop-id.hearing.heard
          c.hear_next.new.hearing.heard
          (record { inside = c.loop-id-test.true; name = c.id-item.is; same = c.loop-id.invariant.same; grows = h.after.grows; joins = h.names })
          (as_before c.args.before.now c.hear_next.new.hearing.heard c.id-item.result c.in_ok-hear_next.field-0 c.if-not-branch.false h.same);
      after = then_heard _ _ _ _ _ _ _ _ _ c.loop-id.invariant.after h.after;
      can = h.can;
      counted = h.counted;
      compared = h.compared;
      last = h.last;
    }
