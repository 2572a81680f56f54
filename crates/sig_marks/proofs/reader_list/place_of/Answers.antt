use Rattle.sig_marks.proofs.LinkedSets.{apart}
use Rattle.sig_marks.proofs.ListedReaders.{step_off}
use Rattle.std.proofs.Common.{get_or}
use Rattle.sig_marks.proofs.reader_list.place_of.Goals as goal

pub loop-place-preserved : goal.loop-place-preserved
loop-place-preserved c =
    let xs = c.args.keys.now in
    let i = c.loop-place.place in
    step_off xs i 0 c.args.reader c.loop-place-test.true (apart (get_or xs i 0) c.args.reader c.if-keys-place.false) c.loop-place.invariant
