use Rattle.std.proofs.Common.{◌≡◌, ◌≤◌, length, ◌++◌, drop}
use Rattle.keyed_each.specs.Queue.{first_waiting, judged, left}
use Rattle.keyed_each.proofs.places.steps_by.Given as goal

abbrev pub invariant-loop-i : goal.invariant-loop-i
invariant-loop-i g l = record {
  lengths : length l.waiting.items ≡ length l.old.keys;
  before : l.head ≤ first_waiting l.waiting.items;
  so_far : l.steps.items ++ judged g.K.PartialEq.eq l.old.keys l.i (left l.waiting.items l.old.keys) (drop l.i l.new)
      ≡ judged g.K.PartialEq.eq l.old.keys 0 (left l.fn.waiting.items l.old.keys) l.new;
}
