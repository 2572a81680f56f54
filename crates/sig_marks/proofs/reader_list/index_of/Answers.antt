use Rattle.std.proofs.Common.{◌∙◌}
use Rattle.sig_marks.proofs.ListedReaders.{indexed_on}
use Rattle.sig_marks.proofs.reader_list.index_of.Goals as goal

pub loop-key-preserved : goal.loop-key-preserved
loop-key-preserved c = c.in_ok-insert.ensures.keys ∙ indexed_on c.args.keys.now c.loop-key.set.keys c.loop-key.key-index c.requires c.loop-key-test.true c.loop-key.invariant
