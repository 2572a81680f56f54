use Rattle.std.proofs.Common.{map, drop}
use Rattle.tpl_blocks.specs.Blocks.{block}
use Rattle.tpl_drawn.specs.Addresses.{number_on}
use Rattle.tpl_model.specs.KeptLines.Kept.{kept}
use Rattle.tpl_drawn.specs.Walks.{walk_of}
use Rattle.tpl_drawn.proofs.Compares.Rows.{RowsLeft}
use Rattle.tpl_drawn.proofs.comparing.comparer.+comparing.Given as goal

-- what came so far, and the rows that are left
abbrev pub invariant-compare_rows-loop-place : goal.invariant-compare_rows-loop-place
invariant-compare_rows-loop-place l =
    RowsLeft l.listed (number_on l.page) (block l.inner) (drop l.place l.rows) (map kept (drop l.place l.memos)) (drop l.place l.inside) l.rows (map kept l.memos) l.inside
    (walk_of l.children.items l.out) (walk_of l.initial.children.items l.initial.out)
