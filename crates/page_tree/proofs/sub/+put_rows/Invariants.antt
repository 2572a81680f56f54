use Rattle.std.proofs.Common.{◌≡◌, ◌++◌, drop, map}
use Rattle.page_tree.specs.Rows.{numbered_row}
use Rattle.page_tree.specs.Subs.{rows_of, side_by_side, sub_tree}
use Rattle.page_tree.proofs.sub.+put_rows.Given as goal

abbrev pub invariant-loop-sub : goal.invariant-loop-sub
invariant-loop-sub l =
    map numbered_row l.rows.items ++ rows_of l.number (side_by_side (map sub_tree (drop l.sub-index l.sub-items)))
    ≡ map numbered_row l.initial.rows.items ++ rows_of l.number (side_by_side (map sub_tree l.sub-items))
