use Rattle.keyed_each.proofs.Keys.{turned}
use Rattle.keyed_each.proofs.places.steps_by.Goals as goal

pub loop-i-preserved : goal.loop-i-preserved
loop-i-preserved g c = record {
  lengths = c.next_step.ensures.marks;
  before = c.next_step.ensures.before;
  so_far = turned g.K.PartialEq.eq g.met.K.RowKey.decides c.args.old.now.keys c.args.new.now c.loop-i.i c.loop-i.waiting.items c.next_step.new.waiting.items c.index-new-i.result
      c.next_step.result c.loop-i.steps.items c.push.new.self.items _ c.loop-i-test.true c.index-new-i.is c.next_step.ensures.step
      c.in_ok-push.ensures.items c.loop-i.invariant.so_far;
}
