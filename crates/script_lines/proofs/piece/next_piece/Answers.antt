use Rattle.std.proofs.Common.{◌≡◌, List, [], ◌∷◌, true, drop, map, sym, ap, ◌∙◌}
use Rattle.script_lines.specs.Lines.{NumberedLine, kept_lines}
use Rattle.script_lines.specs.Pieces.{Piece, outside, pieces}
use Rattle.script_lines.specs.Views.{line_of}
use Rattle.script_lines.proofs.Reader.{none_left, block_begins, line_alone}
use Rattle.script_lines.proofs.piece.next_piece.Goals as goal

pub returns-in_default-clause-piece : goal.returns-in_default-clause-piece
returns-in_default-clause-piece c = ap (pieces outside) c.in_default.ensures.kept ∙ none_left

pub returns-then-begins_block-clause-piece : goal.returns-then-begins_block-clause-piece
returns-then-begins_block-clause-piece c =
    ap (pieces outside) c.in-Some.ensures.kept
    ∙ block_begins (line_of c.in-Some.first) _ (sym c.if-begins_block.ensures)
    ∙ c.in_ok-rest_of_block.ensures.piece

pub returns-clause-piece : goal.returns-clause-piece
returns-clause-piece c =
    let none : map line_of c.new-others.result.items ≡ [] = ap (map line_of) c.new-others.ensures.items in
    ap (pieces outside) c.in-Some.ensures.kept
    ∙ line_alone (line_of c.in-Some.first) _ (sym c.if-begins_block.ensures)
    ∙ ap (λ (g : List NumberedLine). let p : Piece = record { ended = true; lines = line_of c.in-Some.first ∷ g } in p ∷ pieces outside (kept_lines c.in-Some.after (drop c.in-Some.next c.args.script.now))) (sym none)
