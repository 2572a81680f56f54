use Rattle.std.proofs.Common.{◌≡◌, false, take}
use Rattle.signal_model.specs.Signals.{is_in}
use Rattle.sig_marks.proofs.reader_list.place_of.Given as goal

abbrev pub invariant-loop-place : goal.invariant-loop-place
invariant-loop-place l = is_in l.reader (take l.place l.keys) ≡ false
