-- The lines of a template: which bytes write each, and what it says.
use Rattle.std.specs.Prelude.{ℕ, List, [], ◌∷◌, codes, map}
use Rattle.formula_text.specs.Grammar.{Draft}
use Rattle.line_forms.specs.Blocks as blocks
use Rattle.line_forms.specs.Forms.{Form, Piece, part, one, formula, tagged}
use Rattle.line_forms.specs.Rows as grammar
use Rattle.line_forms.specs.Told.{Made}
use Rattle.tpl_syntax.specs.declared.line.Line.{Line}
use Rattle.tpl_syntax.specs.declared.line.Line.TheVariants as line
use Rattle.tpl_syntax.specs.declared.line.Mark.{Mark}
use Rattle.tpl_syntax.specs.declared.line.Mark.TheVariants as mark
use Rattle.tpl_syntax.specs.declared.line.Purpose.{Purpose}
use Rattle.tpl_syntax.specs.declared.line.Purpose.TheVariants as purpose

-- the rows of the grammar
pub data Row : Type 0 where
  text : Row
  tag : Row
  attr : Row
  choice : Row
  other : Row
  loop : Row
  attempt : Row
  close : Row

-- all rows
abbrev pub all_rows : List Row
all_rows = text ∷ tag ∷ attr ∷ choice ∷ other ∷ loop ∷ attempt ∷ close ∷ []

-- a name behind @
abbrev NAME : Piece
NAME = part (one tagged)

-- a formula, which may speak of rows
abbrev FORMULA : Piece
FORMULA = part formula

-- what stands in a row: its first word, what follows it, and the line that it gives of what stands in the parts of that
pub record Entry : Type 0 where
  pub word : List ℕ
  pub form : Form
  pub makes : Made form (Line Draft)

-- a word alone
abbrev alone : List ℕ → Mark → Entry
alone w m = record { word = w; form = []; makes = line.Plain m }

-- a word and a formula
abbrev over : List ℕ → Purpose → Entry
over w p = record { word = w; form = FORMULA ∷ []; makes = λ f. line.Over p f }

-- what stands in each row
abbrev pub entry : Row → Entry
entry text = over (codes "text") purpose.Text
entry tag = record { word = codes "tag"; form = NAME ∷ []; makes = λ n. line.Plain (mark.Tag n) }
entry attr = record { word = codes "attr"; form = NAME ∷ FORMULA ∷ []; makes = λ n f. line.Over (purpose.Attr n) f }
entry choice = over (codes "if") purpose.If
entry other = alone (codes "else") mark.Else
entry loop = over (codes "each") purpose.Each
entry attempt = alone (codes "try") mark.Try
entry close = alone (codes "end") mark.End

-- the first word of a row, and what follows it
abbrev pub row : Row → grammar.Line
row r = ((entry r).word, (entry r).form)

-- the row that begins with each word
abbrev pub table : grammar.Table Row
table = map (λ (r : Row). ((row r).0, r ∷ [])) all_rows

-- the language of the lines of a template
abbrev pub templates : grammar.Language
templates = record { Row = Row; Meaning = Line Draft; row = row; means = λ r. (entry r).makes; table = table }

-- what a line says by itself; its texts may be of any length, and its formulas of any height
abbrev pub Said : Type 0
Said = grammar.Said templates

-- the line, its formula with names
abbrev pub said_line : Said → Line Draft
said_line x = grammar.meaning_of templates x

-- bytes write a line: their tokens spell it
abbrev pub Writes : Said → List ℕ → Type 0
Writes said bytes = blocks.Writes templates said bytes
