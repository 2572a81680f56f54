use Rattle.std.proofs.Common.{[], sym}
use Rattle.std.proofs.lemmas.List.{append-nil}
use Rattle.tpl_hearing.proofs.HeardAgain.{none_again, same_again}
use Rattle.tpl_hearing.proofs.Names.{joins_not}
use Rattle.tpl_hearing.proofs.comparisons.Rehearing.are_same.Goals as goal

pub loop-id-init : goal.loop-id-init
loop-id-init c = none_again c.args.before.now c.args.self.now.heard

pub loop-id-preserved : goal.loop-id-preserved
loop-id-preserved c =
    let h = c.args.self.now.heard in
    let is = c.is_same.ensures c.if-not-is_same.false in
    same_again c.args.before.now c.args.ids.now c.loop-id.id-index c.id-item.result h h h
    (record {
      inside = c.loop-id-test.true;
      name = c.id-item.is;
      same = c.loop-id.invariant;
      grows = record { more = []; all = sym (append-nil h) };
      joins = joins_not h c.id-item.result is.outcome is.is;
    })
    is
