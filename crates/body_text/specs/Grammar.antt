-- The lines of a body: which bytes write each, and what it says.
use Rattle.std.specs.Prelude.{ℕ, List, [], ◌∷◌, codes}
use Rattle.effect_model.specs.declared.plain.Plain.TheVariants as statement
use Rattle.sig_words.specs.Lexemes.{symbol, word}
use Rattle.line_forms.specs.Blocks as blocks
use Rattle.line_forms.specs.Forms.{Piece, part, fixed, one, arguments, formula, name, count}
use Rattle.line_forms.specs.Rows as grammar
use Rattle.line_forms.specs.Told.{Made}
use Rattle.body_text.specs.declared.line.Line.{Line}
use Rattle.body_text.specs.declared.line.Line.TheVariants as line
use Rattle.body_text.specs.declared.line.Source.TheVariants as source

-- the rows of the grammar
pub data Row : Type 0 where
  set : Row
  log : Row
  guard : Row
  cleanup_set : Row
  cleanup_log : Row
  effect : Row
  dispose : Row
  rewire : Row
  host : Row
  close : Row

-- a name
abbrev NAME : Piece
NAME = part (one name)

-- a formula
abbrev FORMULA : Piece
FORMULA = part formula

-- a number without sign
abbrev PLACE : Piece
PLACE = part (one count)

-- distinct names in parentheses
abbrev ARGUMENTS : Piece
ARGUMENTS = part arguments

-- a word
abbrev says : List ℕ → Piece
says w = fixed (word w)

-- the sign before a source
abbrev EQUALS : Piece
EQUALS = fixed (symbol (codes "="))

-- the first word of a row, and what follows it
abbrev pub row : Row → grammar.Line
row set = (codes "set", NAME ∷ FORMULA ∷ [])
row log = (codes "log", FORMULA ∷ [])
row guard = (codes "when", FORMULA ∷ [])
row cleanup_set = (codes "cleanup", says (codes "set") ∷ NAME ∷ FORMULA ∷ [])
row cleanup_log = (codes "cleanup", says (codes "log") ∷ FORMULA ∷ [])
row effect = (codes "effect", [])
row dispose = (codes "dispose", NAME ∷ [])
row rewire = (codes "rewire", NAME ∷ EQUALS ∷ FORMULA ∷ [])
row host = (codes "rewire", NAME ∷ EQUALS ∷ says (codes "host") ∷ PLACE ∷ ARGUMENTS ∷ [])
row close = (codes "end", [])

-- the rows that begin with each of the last words
abbrev pub last_words : grammar.Table Row
last_words =
    (codes "effect", effect ∷ [])
    ∷ (codes "dispose", dispose ∷ [])
    ∷ (codes "rewire", host ∷ rewire ∷ [])
    ∷ (codes "end", close ∷ [])
    ∷ []

-- the rows that begin with each word
abbrev pub table : grammar.Table Row
table =
    (codes "set", set ∷ [])
    ∷ (codes "log", log ∷ [])
    ∷ (codes "when", guard ∷ [])
    ∷ (codes "cleanup", cleanup_set ∷ cleanup_log ∷ [])
    ∷ last_words

-- what a row gives of what stands in its parts
abbrev pub line_makes : (r : Row) → Made (row r).1 Line
line_makes set = λ n x. line.Plain (statement.Set n x)
line_makes log = λ x. line.Plain (statement.Log x)
line_makes guard = λ x. line.When x
line_makes cleanup_set = λ n x. line.Plain (statement.CleanupSet n x)
line_makes cleanup_log = λ x. line.Plain (statement.CleanupLog x)
line_makes effect = line.Effect
line_makes dispose = λ n. line.Plain (statement.Dispose n)
line_makes rewire = λ n x. line.Rewire n (source.Formula x)
line_makes host = λ n k ns. line.Rewire n (source.Host k ns)
line_makes close = line.End

-- the language of the lines of a body
abbrev pub bodies : grammar.Language
bodies = record { Row = Row; Meaning = Line; row = row; means = line_makes; table = table }

-- what a line says by itself; its texts may be of any length, and its formulas of any height
abbrev pub Said : Type 0
Said = grammar.Said bodies

-- the line, its formula with names
abbrev pub said_line : Said → Line
said_line x = grammar.meaning_of bodies x

-- what says a line
abbrev pub said_of : Line → Said
said_of (line.Plain (statement.Set n x)) = (set, (n, (x, tt)))
said_of (line.Plain (statement.Log x)) = (log, (x, tt))
said_of (line.Plain (statement.CleanupSet n x)) = (cleanup_set, (n, (x, tt)))
said_of (line.Plain (statement.CleanupLog x)) = (cleanup_log, (x, tt))
said_of (line.Plain (statement.Dispose n)) = (dispose, (n, tt))
said_of (line.Rewire n (source.Formula x)) = (rewire, (n, (x, tt)))
said_of (line.Rewire n (source.Host k ns)) = (host, (n, (k, (ns, tt))))
said_of (line.When x) = (guard, (x, tt))
said_of line.Effect = (effect, tt)
said_of line.End = (close, tt)

-- bytes write a line: their tokens spell it
abbrev pub Writes : Said → List ℕ → Type 0
Writes said bytes = blocks.Writes bodies said bytes
