use Rattle.std.proofs.Common.{map}
use Rattle.tpl_model.specs.KeptLines.Kept.{kept}
use Rattle.tpl_kept.specs.Turns.{KeysLeft, RowsStand}
use Rattle.tpl_kept.proofs.renewing.rows.rows_stand.Given as goal

-- the keys of the rows so far are the same, and what was kept of them stands
abbrev pub invariant-loop-place : goal.invariant-loop-place
invariant-loop-place l = record {
  keys : KeysLeft l.was.rows l.rows.rows l.place;
  stand : RowsStand l.was l.rows l.place (map kept l.fn.memos.items) (map kept l.memos.items);
}
