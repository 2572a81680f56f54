-- The text of a command stands in a script as a piece.
use Rattle.std.proofs.Common.{◌≡◌, ℕ, ◌+◌, true, false, List, [], ◌∷◌, ◌++◌, length, drop, flat_map, refl, sym, ap, ap₂, subst, ◌∙◌, append_assoc, inl, inr}
use Rattle.std.specs.List.{AllByRecursion}
use Rattle.std.proofs.Math.Seq.{drop-append_seam}
use Rattle.std.proofs.lemmas.List.{append-nil, drop-drop}
use Rattle.std.proofs.lemmas.List.Folds.{flat_map-map}
use Rattle.line_forms.specs.Forms.{Args}
use Rattle.line_forms.specs.Printed.{ended}
use Rattle.line_forms.proofs.Shared.{IsWhole, kept_all, prints_back, said_whole}
use Rattle.script_lines.specs.Lines.{NumberedLine, kept_lines, numbered}
use Rattle.script_lines.specs.Pieces.{Piece, pieces, pieces_of, outside, inside, begins_block, closes, level_after, opens}
use Rattle.script_lines.proofs.Shared.{line_alone, block_begins, block_goes_on, block_ends}
use Rattle.live_cmd.specs.declared.command.Command.{Command}
use Rattle.live_cmd.specs.declared.command.Command.TheVariants as command
use Rattle.live_cmd.specs.declared.command.Item.TheVariants as item
use Rattle.script_items.specs.Blocks.{is_head}
use Rattle.live_cmd.specs.Grammar.{Row, row, commands, effect, on, template, close}
use Rattle.script_items.specs.Items.{IsItem, any_long, Begins}
use Rattle.script_items.proofs.Shared.{begins_none}
use Rattle.live_writing.specs.Printer.{said_by, bytes_of, ended_line, command_text, lines_by, lines_of_command}
use Rattle.live_writing.proofs.Levels.{Stays}
use Rattle.live_writing.proofs.Numbered.{numbered-append, numbered_one}
use Rattle.live_writing.proofs.Printer.{DoneIn, block_is, done_by, is_flat, flat_done, flat_lines, line_is, said_is}

-- ---- blocks

-- such lines are taken into the block
taken : (level to k : ℕ) (ls : List (List ℕ)) (got more : List NumberedLine) → Stays level ls to
    → pieces (inside level got) (numbered k ls ++ more) ≡ pieces (inside to (got ++ numbered k ls)) more
unfolding numbered
taken level to k [] got more h =
    ap₂ (λ (n : ℕ) (ms : List NumberedLine). pieces (inside n ms) more) h (sym (append-nil got))
taken level to k (l ∷ ls) got more h =
    let next = level_after level l in
    block_goes_on level got (k, l) (numbered (k + 1) ls ++ more) h.0 ∙ taken next to (k + 1) ls (got ++ (k, l) ∷ []) more h.1
    ∙ ap (λ (ms : List NumberedLine). pieces (inside to ms) more) (append_assoc got ((k, l) ∷ []) (numbered (k + 1) ls))

-- ---- pieces

-- the piece that lines are
abbrev piece_of : ℕ → List (List ℕ) → Piece
piece_of n ls = record { ended = true; lines = numbered n ls }

-- the pieces of lines and of what stands behind them
pieces_kept : (n : ℕ) (ls : List (List ℕ)) (rest : List ℕ) → AllByRecursion IsWhole ls
    → pieces_of n (flat_map ended ls ++ rest) ≡ pieces outside (numbered n ls ++ kept_lines (n + length ls) rest)
pieces_kept n ls rest s = ap (pieces outside) (kept_all n ls rest s)

-- one line, which begins no block
one_line : (l : List ℕ) (n : ℕ) (rest : List ℕ) → AllByRecursion IsWhole (l ∷ []) → begins_block l ≡ false
    → pieces_of n (flat_map ended (l ∷ []) ++ rest) ≡ piece_of n (l ∷ []) ∷ pieces_of (n + 1) rest
unfolding numbered
one_line l n rest s h = pieces_kept n (l ∷ []) rest s ∙ line_alone (n, l) (kept_lines (n + 1) rest) h

-- a line that begins a block, lines that leave it open, and one that ends it
block : (b e : List ℕ) (ls : List (List ℕ)) (n : ℕ) (rest : List ℕ) → AllByRecursion IsWhole (b ∷ (ls ++ e ∷ [])) → begins_block b ≡ true → Stays 1 ls 1
    → level_after 1 e ≡ 0
    → pieces_of n (flat_map ended (b ∷ (ls ++ e ∷ [])) ++ rest) ≡ piece_of n (b ∷ (ls ++ e ∷ [])) ∷ pieces_of (n + length (b ∷ (ls ++ e ∷ []))) rest
unfolding numbered
block b e ls n rest s first stays ends =
    let all = b ∷ (ls ++ e ∷ []) in
    let more = kept_lines (n + length all) rest in
    let last : ℕ × List ℕ = ((n + 1) + length ls, e) in
    let behind : numbered (n + 1) (ls ++ e ∷ []) ≡ numbered (n + 1) ls ++ last ∷ [] =
    numbered-append (n + 1) ls (e ∷ []) ∙ ap (λ (ms : List NumberedLine). numbered (n + 1) ls ++ ms) (numbered_one ((n + 1) + length ls) e) in
    pieces_kept n all rest s
    ∙ block_begins (n, b) (numbered (n + 1) (ls ++ e ∷ []) ++ more) first
    ∙ ap (λ (ms : List NumberedLine). pieces (inside 1 ((n, b) ∷ [])) ms) (ap (λ (ms : List NumberedLine). ms ++ more) behind ∙ append_assoc (numbered (n + 1) ls) (last ∷ []) more)
    ∙ taken 1 1 (n + 1) ls ((n, b) ∷ []) (last ∷ more) stays
    ∙ block_ends 1 ((n, b) ∷ numbered (n + 1) ls) last more ends
    ∙ ap (λ (ms : List NumberedLine). record { ended = true; lines = (n, b) ∷ ms } ∷ pieces outside more) (sym behind)

-- ---- a command

-- the text of a command is that of its lines
flat_text : (c : Command) → is_flat c ≡ true → command_text c ≡ flat_map ended_line (said_by c)
flat_text (command.Effect n b o) h = absurd cc
flat_text (command.On t k e b) h = absurd cc
flat_text (command.Template n t) h = absurd cc
flat_text _ h = refl

text_of : (c : Command) → is_flat c ≡ true → command_text c ≡ flat_map ended (lines_by c)
text_of c h =
    flat_text c h ∙ sym (flat_map-map ended bytes_of (said_by c)) ∙ ap (λ (ls : List (List ℕ)). flat_map ended ls) (sym (flat_lines c h))

-- a piece with these lines begins there, whatever follows
abbrev Stands : List (List ℕ) → Type 0
Stands ls = (n : ℕ) (rest : List ℕ) → pieces_of n (flat_map ended ls ++ rest) ≡ piece_of n ls ∷ pieces_of (n + length ls) rest

-- the first line of a block begins it
head_begins : (r : Row) (a : Args (row r).1) → is_head r ≡ true → begins_block (bytes_of (r, a)) ≡ true
unfolding begins_block
head_begins effect a h = refl
head_begins on a h = refl
head_begins template a h = refl
head_begins _ a h = absurd cc

end_ends : level_after 1 (bytes_of (close, tt)) ≡ 0
unfolding opens closes
end_ends = refl

-- lines and one more are whole where it is
all_behind : (ls : List (List ℕ)) (l : List ℕ) → AllByRecursion IsWhole ls → IsWhole l → AllByRecursion IsWhole (ls ++ l ∷ [])
all_behind [] l h k = (k, tt)
all_behind (m ∷ ls) l h k = (h.0, all_behind ls l h.1 k)

-- the lines of a block stand
block_stands : (c : Command) → DoneIn c → Stands (lines_by c)
block_stands c d n rest =
    let end : List ℕ = bytes_of (close, tt) in
    let all : AllByRecursion IsWhole (bytes_of d.head ∷ (d.inner ++ end ∷ [])) =
    (said_whole commands d.head d.first d.writes, all_behind d.inner end d.whole (said_whole commands (close, tt) d.last d.end)) in
    subst (λ (ls : List (List ℕ)). pieces_of n (flat_map ended ls ++ rest) ≡ piece_of n ls ∷ pieces_of (n + length ls) rest) (sym d.lines)
    (block (bytes_of d.head) end d.inner n rest all (head_begins d.head.0 d.head.1 d.begins) d.stays end_ends)

-- what begins there, where the text of a command stands whose lines are that command
begins_by : (c : Command) (script : List ℕ) (at line : ℕ) (rest : List ℕ) → drop at script ≡ command_text c ++ rest
    → command_text c ≡ flat_map ended (lines_by c) → Stands (lines_by c)
    → IsItem (record { ended = true; lines = lines_of_command line c }) (item.Do c)
    → Begins script at line (item.Do c) (at + length (command_text c)) (line + length (lines_by c))
begins_by c script at line rest e text stands is =
    let next : drop (at + length (command_text c)) script ≡ rest =
    sym (drop-drop (length (command_text c)) at script) ∙ ap (λ (bs : List ℕ). drop (length (command_text c)) bs) e ∙ drop-append_seam (command_text c) rest in
    let after = line + length (lines_by c) in
    record {
      piece = piece_of line (lines_by c);
      front =
          ap (pieces_of line) (e ∙ ap (λ (bs : List ℕ). bs ++ rest) text) ∙ stands line rest
          ∙ ap (λ (bs : List ℕ). piece_of line (lines_by c) ∷ pieces_of after bs) (sym next);
      item = is;
    }

-- the text of a command that a piece is begins the command, wherever it stands
pub begins : (p : Piece) (c : Command) → IsItem p (item.Do c) → (script : List ℕ) (at line : ℕ) (rest : List ℕ) → drop at script ≡ command_text c ++ rest
    → any_long (lines_of_command line c) ≡ false → Begins script at line (item.Do c) (at + length (command_text c)) (line + length (lines_by c))
begins p c i script at line rest e short = elim (done_by p (item.Do c) c i refl) [
  | inl d ↦
      let all : AllByRecursion IsWhole (bytes_of d.said ∷ []) = (said_whole commands d.said d.line d.writes, tt) in
      let flat = begins_none (bytes_of d.said) d.said (prints_back commands d.said d.line d.writes) d.alone in
      let stands : Stands (bytes_of d.said ∷ []) = λ n rest. one_line (bytes_of d.said) n rest all flat in
      begins_by c script at line rest e (text_of c (flat_done c d)) (subst Stands (sym (said_is c d)) stands) (line_is c line d short)
  | inr d ↦ begins_by c script at line rest e d.text (block_stands c d) (block_is c line d short)
]
