use Rattle.std.proofs.Common.{drop}
use Rattle.tpl_blocks.specs.Blocks.{block}
use Rattle.tpl_scratch.specs.Pages.{nodes_of}
use Rattle.tpl_scratch.proofs.Parts.{RowsLeft}
use Rattle.tpl_scratch.proofs.show.+showing.Given as goal

abbrev pub invariant-show_rows-loop-place : goal.invariant-show_rows-loop-place
invariant-show_rows-loop-place l =
    RowsLeft l.known l.ends (block l.inner) l.rows (nodes_of l.initial.out) (nodes_of l.out) l.place (drop l.place l.rows.rows) l.failed
