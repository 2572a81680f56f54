use Rattle.keyed_each.proofs.Distinct.{one_added}
use Rattle.keyed_each.proofs.places.table.Goals as goal

pub loop-key-preserved : goal.loop-key-preserved
loop-key-preserved g c = record {
  so_far = one_added g.K.PartialEq.eq g.met.K.RowKey.decides c.loop-key.keys.keys c.args.list.now c.add.new.keys.keys c.loop-key.key-index c.key-item.result c.loop-key-test.true
      c.key-item.is c.in_ok-add.ensures.keys c.loop-key.invariant.so_far;
  distinct = c.in_ok-add.ensures.distinct;
}
