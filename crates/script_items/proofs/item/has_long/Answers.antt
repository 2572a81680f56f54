use Rattle.std.proofs.Common.{arith}
use Rattle.script_items.proofs.Lengths.{others_long}
use Rattle.script_items.proofs.item.has_long.Goals as goal

pub returns : goal.returns
returns c =
    let value = c.deref.ensures.value in
    let short = c.if-piece-gt-MOST_LINE.false in
    others_long c.args.piece.now.first c.args.piece.now.others.items c.any_long.result (omega arith) (rw value at c.any_long.ensures)
