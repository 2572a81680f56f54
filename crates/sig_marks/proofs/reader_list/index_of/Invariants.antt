use Rattle.std.proofs.Common.{◌≡◌, take}
use Rattle.sig_marks.proofs.reader_list.index_of.Given as goal

abbrev pub invariant-loop-key : goal.invariant-loop-key
invariant-loop-key l = l.set.keys ≡ take l.key-index l.keys
