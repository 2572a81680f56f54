-- The lines of each command: a line alone, or a block with its end.
use Rattle.std.specs.Prelude.{ℕ, ◌+◌, ◌-◌, Bool, ◌||◌, ◌==◌, if◌then◌else◌, List, [], ◌∷◌, ◌++◌, true, false, codes}
use Rattle.std.specs.Str.{bytes_eq}
use Rattle.script_lines.specs.Lines.{NumberedLine, kept_lines, first_word}

-- whether a line's first word is this one
abbrev pub has_word : List ℕ → List ℕ → Bool
has_word w l = bytes_eq (first_word l) w

-- whether a line outside a block begins one
unfoldable pub begins_block : List ℕ → Bool
begins_block l = has_word (codes "effect") l || has_word (codes "template") l || has_word (codes "on") l

-- whether a word that begins a block has this letter first
abbrev pub fronts_block : ℕ → Bool
fronts_block b = b == 101 || b == 116 || b == 111

-- whether a line of a block opens a level
unfoldable pub opens : List ℕ → Bool
opens l =
    has_word (codes "effect") l || has_word (codes "when") l || has_word (codes "tag") l || has_word (codes "if") l || has_word (codes "each") l
    || has_word (codes "try") l

-- whether a line of a block closes a level
unfoldable pub closes : List ℕ → Bool
closes l = has_word (codes "end") l

-- how many levels are open after a line of a block
abbrev pub level_after : ℕ → List ℕ → ℕ
level_after level l = if opens l then level + 1 else (if closes l then level - 1 else level)

-- the lines of a command, and whether its end is there
pub record Piece : Type 0 where
  pub ended : Bool
  pub lines : List NumberedLine

-- where a line stands
pub data Place : Type 0 where
  outside : Place
  -- in a block with so many levels open, after these lines of it
  inside : ℕ → List NumberedLine → Place

-- the pieces of lines that stand there; the block that the last line leaves open isn't ended
unfoldable pub pieces : Place → List NumberedLine → List Piece
pieces outside [] = []
pieces (inside level got) [] = record { ended = false; lines = got } ∷ []
pieces outside (l ∷ ls) =
    if begins_block l.1 then pieces (inside 1 (l ∷ [])) ls
    else record { ended = true; lines = l ∷ [] } ∷ pieces outside ls
pieces (inside level got) (l ∷ ls) =
    if level_after level l.1 == 0 then record { ended = true; lines = got ++ l ∷ [] } ∷ pieces outside ls
    else pieces (inside (level_after level l.1) (got ++ l ∷ [])) ls

-- the pieces of a script whose first line has the number n; lines that are passed over count for numbers alone
abbrev pub pieces_of : ℕ → List ℕ → List Piece
pieces_of n script = pieces outside (kept_lines n script)

-- where the line after these stands
unfoldable pub place_after : Place → List NumberedLine → Place
place_after p [] = p
place_after outside (l ∷ ls) = if begins_block l.1 then place_after (inside 1 (l ∷ [])) ls else place_after outside ls
place_after (inside level got) (l ∷ ls) =
    if level_after level l.1 == 0 then place_after outside ls
    else place_after (inside (level_after level l.1) (got ++ l ∷ [])) ls
