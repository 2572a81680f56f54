use Rattle.std.proofs.Common.{◌≡◌}
use Rattle.tpl_model.specs.KeptLines.Memos.{table_in}
use Rattle.tpl_kept.specs.Heads.{places_from}
use Rattle.tpl_kept.proofs.making.head.places.Given as goal

-- the rows so far
abbrev pub invariant-loop-place : goal.invariant-loop-place
invariant-loop-place l = l.rows.items ≡ places_from (table_in l.outcome) 0 l.place
