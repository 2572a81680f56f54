use Rattle.std.proofs.Common.{[], true, map, drop}
use Rattle.tpl_blocks.specs.Blocks.{block}
use Rattle.tpl_drawn.specs.Addresses.{number_on}
use Rattle.tpl_model.specs.KeptLines.Kept.{kept}
use Rattle.tpl_model.specs.ShownNodes.Shapes.{child_of}
use Rattle.tpl_drawn.proofs.Compares.Rows.{RowsLeft}
use Rattle.tpl_drawn.proofs.Compares.Walks.{alone}
use Rattle.tpl_drawn.proofs.comparing.kept.+staying.Given as goal

-- the children so far, and the rows that are left
abbrev pub invariant-put_staying_rows-loop-place : goal.invariant-put_staying_rows-loop-place
invariant-put_staying_rows-loop-place l =
    RowsLeft true (number_on l.page) (block l.inner) (drop l.place l.rows) (map kept (drop l.place l.memos)) [] l.rows (map kept l.memos) []
    (alone (map child_of l.children.items)) (alone (map child_of l.initial.children.items))
