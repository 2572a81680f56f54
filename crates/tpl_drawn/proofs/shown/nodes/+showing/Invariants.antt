use Rattle.std.proofs.Common.{map, take}
use Rattle.tpl_blocks.specs.Blocks.{block}
use Rattle.tpl_model.specs.KeptLines.Kept.{kept}
use Rattle.tpl_model.specs.ShownNodes.Shapes.{all_shown}
use Rattle.tpl_drawn.proofs.Shaped.Behind.{RowsMore}
use Rattle.tpl_drawn.proofs.shown.nodes.+showing.Given as goal

-- the nodes of the rows so far
abbrev pub invariant-put_rows-loop-place : goal.invariant-put_rows-loop-place
invariant-put_rows-loop-place l =
    RowsMore (block l.inner) l.rows (map kept (take l.place l.memos)) (all_shown l.initial.out.items) (all_shown l.out.items)
