use Rattle.std.proofs.Common.{◌≡◌, ◌++◌, drop}
use Rattle.std.specs.List.{IsDistinct}
use Rattle.keyed_each.proofs.places.table.Given as goal

abbrev pub invariant-loop-key : goal.invariant-loop-key
invariant-loop-key g l = record {
  so_far : IsDistinct g.K.PartialEq.eq l.list → l.keys.keys ++ drop l.key-index l.list ≡ l.list;
  distinct : IsDistinct g.K.PartialEq.eq l.keys.keys;
}
