use Rattle.std.proofs.Common.{[]}
use Rattle.sig_owner.specs.Tables.{rows_of}
use Rattle.sig_owner.specs.Walks.{GoesOn, IsWalk, rest, steps_under, work}
use Rattle.sig_owner.proofs.walk.teardown_under.Given as goal

abbrev pub invariant-loop-walk : goal.invariant-loop-walk
invariant-loop-walk l = record {
  walk : IsWalk (rows_of l.holders.entries) l.walk;
  goes : GoesOn (rows_of l.holders.entries) [] l.walk.undoings.items [] l.walk.ended.items (steps_under (rows_of l.holders.entries) l.fn.id) (rest (rows_of l.holders.entries) l.walk);
}

abbrev pub decreases-loop-walk : goal.decreases-loop-walk
decreases-loop-walk l = work (rest (rows_of l.holders.entries) l.walk) l.walk.pending.items
