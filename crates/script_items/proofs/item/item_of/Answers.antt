use Rattle.std.proofs.Common.{refl, sym}
use Rattle.script_lines.specs.Views.{line_of, piece_of}
use Rattle.script_items.specs.Items.{long}
use Rattle.script_items.proofs.Items.{is_block, is_plain, is_unended}
use Rattle.script_items.proofs.Lengths.{first_short, others_short}
use Rattle.script_items.proofs.item.item_of.Goals as goal

pub returns-then-has_long : goal.returns-then-has_long
returns-then-has_long c = long (sym c.if-has_long.ensures)

pub returns-then-not-piece : goal.returns-then-not-piece
returns-then-not-piece c = is_unended (piece_of c.args.piece.now) (line_of c.args.piece.now.first) (sym c.if-has_long.ensures) c.if-not-piece.true refl

pub block_of-requires-clause-first : goal.block_of-requires-clause-first
block_of-requires-clause-first c = first_short c.args.piece.now.first c.args.piece.now.others.items (sym c.if-has_long.ensures)

pub block_of-requires-clause-others : goal.block_of-requires-clause-others
block_of-requires-clause-others c =
    let value = c.deref.ensures.value in
    rw value (others_short c.args.piece.now.first c.args.piece.now.others.items (sym c.if-has_long.ensures))

pub returns-in-Some : goal.returns-in-Some
returns-in-Some c =
    let value = c.deref.ensures.value in
    is_block (piece_of c.args.piece.now) c.in-Some.item (sym c.if-has_long.ensures) c.if-not-piece.false (rw (c.in-Some.is, value) at c.in_ok-item.ensures)

pub plain_item-requires : goal.plain_item-requires
plain_item-requires c = first_short c.args.piece.now.first c.args.piece.now.others.items (sym c.if-has_long.ensures)

pub returns : goal.returns
returns c =
    let value = c.deref.ensures.value in
    is_plain (piece_of c.args.piece.now) (line_of c.args.piece.now.first) c.in_ok-item-2.item (sym c.if-has_long.ensures) c.if-not-piece.false
    (rw (c.in_default.is, value) at c.in_ok-item.ensures) refl c.in_ok-item-2.ensures
