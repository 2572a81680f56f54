-- What the pieces of a script are: commands, or refused.
use Rattle.std.specs.Prelude.{◌≡◌, ℕ, nat_lt, Bool, true, false, List, [], ◌∷◌, length, Option, Some, None, drop, if◌then◌else◌, IsTrue}
use Rattle.std.specs.List.{list_any}
use Rattle.std.specs.Option.{option_map_or}
use Rattle.sig_base.specs.declared.limits.TheConstants.{MOST_FIELDS, MOST_LINE}
use Rattle.script_lines.specs.Lines.{NumberedLine}
use Rattle.script_lines.specs.Pieces.{Piece, pieces_of}
use Rattle.live_cmd.specs.declared.line.Line.{Line}
use Rattle.live_cmd.specs.declared.line.Line.TheVariants as line
use Rattle.live_cmd.specs.declared.command.Command.{Command}
use Rattle.live_cmd.specs.declared.command.Command.TheVariants as command
use Rattle.live_cmd.specs.declared.command.Item.{Item}
use Rattle.live_cmd.specs.declared.command.Item.TheVariants as item
use Rattle.script_items.specs.declared.contents.Content.{Content}
use Rattle.live_entries.specs.declared.refusal.LimitWord.TheVariants as limit
use Rattle.live_entries.specs.declared.refusal.Refusal.TheVariants as refusal
use Rattle.live_cmd.specs.Grammar.{Said, Writes, said_line, is_alone}
use Rattle.live_cmd.specs.Refusals.{fault_of, refused_for}
use Rattle.script_items.specs.Blocks.{Block, IsContent, block_item}

-- the first of lines, and one without a byte where there is none
abbrev pub first_line : List NumberedLine → NumberedLine
first_line [] = (0, [])
first_line (l ∷ ls) = l

-- whether a line has more than `MOST_LINE` bytes
abbrev pub any_long : List NumberedLine → Bool
any_long ls = list_any (λ l. nat_lt MOST_LINE (length l.1)) ls

-- a command by itself is all of this piece, if the piece begins with one
abbrev pub IsSingle : Piece → Type 0
IsSingle p = (x : Said) → Writes x (first_line p.lines).1 → IsTrue (is_alone x) → p.lines ≡ first_line p.lines ∷ []

-- bytes write nothing that is a command by itself
abbrev pub IsNoCommand : List ℕ → Type 0
IsNoCommand bytes = (x : Said) → Writes x bytes → IsTrue (is_alone x) → ⊥

-- the command that a line is
abbrev pub command_of : Line → Option Command
command_of (line.Alone c) = Some c
command_of _ = None

-- whether a command makes a list of more than `MOST_FIELDS` fields
abbrev pub has_many_fields : Command → Bool
has_many_fields (command.List n fs o) = nat_lt MOST_FIELDS (length fs)
has_many_fields _ = false

-- a command that has too many fields is refused for that; nothing else can be wrong with its line
abbrev pub item_made : Command → Item
item_made c = if has_many_fields c then item.Refused (refusal.Limit limit.Fields) else item.Do c

-- a line that is no command is refused
abbrev pub item_or : ℕ → Option Command → Item
item_or k None = item.Refused (refusal.Syntax k)
item_or k (Some c) = item_made c

-- what a line of this number is that says this: refused for what is wrong with it, or the command that it gives
abbrev pub item_of : ℕ → Said → Item
item_of k x = option_map_or (λ f. item.Refused (refused_for k f)) (fault_of x) (item_or k (command_of (said_line x)))

-- What a piece is: one with a line that is too long is refused for that, a block without its end at its first line. A block whose lines
-- have a grammar of their own is what they come to. Another piece is what its first line says, which is all of it where it is a command by
-- itself (`commands_alone`), or is refused where that line says no such command.
pub data IsItem (p : Piece) : Item → Type 0 where
  long : any_long p.lines ≡ true → IsItem p (item.Refused (refusal.Limit limit.Line))
  unended : any_long p.lines ≡ false → p.ended ≡ false → IsItem p (item.Refused (refusal.Syntax (first_line p.lines).0))
  block : (b : Block p.lines) (c : Content) → any_long p.lines ≡ false → p.ended ≡ true → IsContent b.head b.inner c
      → IsItem p (block_item b.ends b.last.0 c)
  faulty : any_long p.lines ≡ false → p.ended ≡ true → (Block p.lines → ⊥) → IsNoCommand (first_line p.lines).1
      → IsItem p (item.Refused (refusal.Syntax (first_line p.lines).0))
  says : (x : Said) → any_long p.lines ≡ false → p.ended ≡ true → Writes x (first_line p.lines).1 → IsTrue (is_alone x)
      → IsItem p (item_of (first_line p.lines).0 x)

-- what pieces are, one by one
abbrev pub AreItems : List Piece → List Item → Type 0
AreItems [] [] = Unit {0}
AreItems (p ∷ ps) (i ∷ is) = IsItem p i × AreItems ps is
AreItems _ _ = ⊥

-- the items of a script whose first line has this number
abbrev pub ItemsFrom : ℕ → List ℕ → List Item → Type 0
ItemsFrom n script is = AreItems (pieces_of n script) is

-- the item that begins at a byte, which begins a line of this number; what comes after it begins there, with that number
pub record Begins (script : List ℕ) (at line : ℕ) (i : Item) (next after : ℕ) : Type 0 where
  pub piece : Piece
  pub front : pieces_of line (drop at script) ≡ piece ∷ pieces_of after (drop next script)
  pub item : IsItem piece i
