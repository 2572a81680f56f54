use Rattle.std.proofs.Common.{◌≡◌, ◌++◌, drop, map}
use Rattle.keyed_each.specs.Steps.{listed}
use Rattle.keyed_each.proofs.places.marks.Given as goal

abbrev pub invariant-loop-key : goal.invariant-loop-key
invariant-loop-key g l =
    l.marks.items ++ map (λ k. listed g.K.PartialEq.eq k l.keys.keys) (drop l.key-index l.list) ≡ map (λ k. listed g.K.PartialEq.eq k l.keys.keys) l.list
