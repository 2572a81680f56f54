-- The lines and pieces that the program holds, as those of the definitions.
use Rattle.std.specs.Prelude.{◌∷◌, map}
use Rattle.script_lines.specs.declared.line.NumberedLine as held_line
use Rattle.script_lines.specs.declared.piece.Piece as held_piece
use Rattle.script_lines.specs.Lines.{NumberedLine}
use Rattle.script_lines.specs.Pieces.{Piece}

-- a line with its number
abbrev pub line_of : held_line.NumberedLine → NumberedLine
line_of l = (l.number, l.text.now)

-- a command's lines, and whether its end is there
abbrev pub piece_of : held_piece.Piece → Piece
piece_of p = record { ended = p.ended; lines = line_of p.first ∷ map line_of p.others.items }
