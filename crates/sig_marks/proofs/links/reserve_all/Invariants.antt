use Rattle.std.proofs.Common.{ℕ, ◌<◌, length}
use Rattle.std.specs.Prelude.{get_or}
use Rattle.sig_marks.specs.Sets.{Makes, spare_at}
use Rattle.sig_marks.proofs.links.reserve_all.Given as goal

abbrev pub invariant-loop-read : goal.invariant-loop-read
invariant-loop-read l = record {
  makes : Makes l.fn.sets.entries l.sets.entries l.reader;
  room : (i : ℕ) (d : ℕ) → i < l.read-index → i < length l.reads → 0 < spare_at l.sets.entries l.reader (get_or l.reads i d);
}
