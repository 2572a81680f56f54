-- What the program holds of lines that it read.
use Rattle.std.specs.Prelude.{◌≡◌, ◌⊎◌, ◌==◌, if◌then◌else◌, ℕ, Bool, true, false, List, [], ◌∷◌, Option, Some, None, Result, Ok, Err, IsTrue}
use Rattle.formula_text.specs.declared.wired.FormulaFault.{FormulaFault}
use Rattle.script_lines.specs.Lines.{NumberedLine}
use Rattle.live_entries.specs.declared.refusal.Refusal.TheVariants as refusal
use Rattle.live_cmd.specs.Grammar.{Said, Writes, is_alone}
use Rattle.live_cmd.specs.Refusals.{refused_for}
use Rattle.script_items.specs.Items.{command_of, has_many_fields, item_of, item_or, IsNoCommand}
use Rattle.live_cmd.specs.declared.command.Item.{Item}
use Rattle.live_cmd.specs.declared.command.Item.TheVariants as item
use Rattle.live_cmd.specs.declared.line.Line.{Line}
use Rattle.live_cmd.specs.declared.line.Line.TheVariants as line
use Rattle.script_items.specs.declared.contents.Head.{Head}
use Rattle.script_items.specs.declared.contents.Head.TheVariants as heads

-- the first line of a block, where a line is one
abbrev pub head_of : Line → Option Head
head_of (line.Effect n o) = Some (heads.Effect n o)
head_of (line.On t k e) = Some (heads.On t k e)
head_of (line.Template n) = Some (heads.Template n)
head_of _ = None

-- so it is with a line that was read
abbrev pub head_told : Result Line FormulaFault → Option Head
head_told (Ok l) = head_of l
head_told (Err f) = None

-- whether a line is an `end`
abbrev pub is_end : Line → Bool
is_end line.End = true
is_end _ = false

-- so it is with a line that was read
abbrev pub end_told : Result Line FormulaFault → Bool
end_told (Ok l) = is_end l
end_told (Err f) = false

-- the number of the line that has this number; 0 where none has
abbrev pub number_in : List NumberedLine → ℕ → ℕ
number_in [] k = 0
number_in (l ∷ ls) k = if l.0 == k then l.0 else number_in ls k

-- whether a line that was read makes a list of too many fields
abbrev pub many_told : Result Line FormulaFault → Bool
many_told (Ok (line.Alone c)) = has_many_fields c
many_told _ = false

-- what a line of this number is that was read
abbrev pub item_read : ℕ → Result Line FormulaFault → Item
item_read k (Ok l) = item_or k (command_of l)
item_read k (Err f) = item.Refused (refused_for k f)

-- a line that begins no block is what it says, or refused where it says nothing that is a command by itself
abbrev pub IsPlain : NumberedLine → Item → Type 0
IsPlain l i =
    ((x : Said) × Writes x l.1 × IsTrue (is_alone x) × (i ≡ item_of l.0 x)) ⊎ (IsNoCommand l.1 × (i ≡ item.Refused (refusal.Syntax l.0)))
