-- The lines of the language: which bytes write each, and what it gives.
use Rattle.std.specs.Prelude.{ℕ, Bool, ◌&&◌, not, List, [], ◌∷◌, codes, Some, None, true, false}
use Rattle.std.specs.List.{list_all}
use Rattle.std.specs.Str.{bytes_eq}
use Rattle.sig_words.specs.Lexemes.{symbol, word}
use Rattle.formula_text.specs.Slots.{wired}
use Rattle.line_forms.specs.Blocks as blocks
use Rattle.line_forms.specs.Forms.{Piece, part, fixed, one, perhaps, many, listed, arguments, formula, name, value, key, count, tagged, are_distinct}
use Rattle.line_forms.specs.Rows as grammar
use Rattle.line_forms.specs.Told.{Made}
use Rattle.live_cmd.specs.declared.command.Bare.{Bare}
use Rattle.live_cmd.specs.declared.command.Command.TheVariants as command
use Rattle.live_cmd.specs.declared.command.RowEdit.TheVariants as edit
use Rattle.live_cmd.specs.declared.command.SourceText.TheVariants as source
use Rattle.live_cmd.specs.declared.command.Try.TheVariants as tried
use Rattle.live_cmd.specs.declared.command.Verb.{Verb}
use Rattle.live_cmd.specs.declared.line.Line.{Line}
use Rattle.live_cmd.specs.declared.line.Line.TheVariants as line
use Rattle.live_cmd.specs.Words.{all_bares, all_verbs, bare_word, verb_word}

-- the rows of the grammar
pub data Row : Type 0 where
  -- a verb and a name
  verb : Verb → Row
  -- a word alone
  bare : Bare → Row
  cell : Row
  set : Row
  -- a list, and the edits of its rows
  list : Row
  insert_row : Row
  remove_row : Row
  move_row : Row
  put_field : Row
  -- a computed of a formula, and one of a host formula with its arguments
  computed : Row
  computed_host : Row
  -- the same two as another source of a computed
  rewire : Row
  rewire_host : Row
  owner : Row
  watcher : Row
  tries_get : Row
  tries_set : Row
  tries_watch : Row
  tries_unwatch : Row
  watch : Row
  unwatch : Row
  mount : Row
  effect : Row
  -- a handler of an event, and the firing of one
  on : Row
  fire : Row
  template : Row
  close : Row

-- whether a name can be that of a field: the key has another place
abbrev pub is_field : List ℕ → Bool
is_field n = not (bytes_eq n (codes "key"))

-- whether names can be those of a list's fields: none of them stands there twice
abbrev pub are_fields : List (List ℕ) → Bool
are_fields ns = list_all is_field ns && are_distinct ns

-- a name
abbrev N : Piece
N = part (one name)

-- a value
abbrev LIT : Piece
LIT = part (one value)

-- a formula
abbrev FORMULA : Piece
FORMULA = part formula

-- a number without sign
abbrev K : Piece
K = part (one count)

-- the key of a row
abbrev KEY : Piece
KEY = part (one key)

-- an event behind @
abbrev EVENT : Piece
EVENT = part (one tagged)

-- the names of fields in parentheses
abbrev FIELDS : Piece
FIELDS = part (listed name)

-- values in parentheses
abbrev VALUES : Piece
VALUES = part (listed value)

-- distinct names in parentheses
abbrev ARGUMENTS : Piece
ARGUMENTS = part arguments

-- the place of an equality rule, if one is said
abbrev pub equals_K : Piece
equals_K = part (perhaps (codes "equals") count)

-- the owner inside which something is made, if one is said
abbrev pub in_O : Piece
in_O = part (perhaps (codes "in") name)

-- any number of names
abbrev NAMES : Piece
NAMES = part (many name)

-- a word
abbrev says : List ℕ → Piece
says w = fixed (word w)

-- a symbol
abbrev mark : List ℕ → Piece
mark s = fixed (symbol s)

-- the first word of a row, and what follows it
abbrev pub row : Row → grammar.Line
row (verb v) = (verb_word v, N ∷ [])
row (bare b) = (bare_word b, [])
row cell = (codes "cell", N ∷ mark (codes "=") ∷ LIT ∷ equals_K ∷ in_O ∷ [])
row set = (codes "set", N ∷ LIT ∷ [])
row list = (codes "list", N ∷ FIELDS ∷ in_O ∷ [])
row insert_row = (codes "insert", N ∷ K ∷ KEY ∷ VALUES ∷ [])
row remove_row = (codes "remove", N ∷ KEY ∷ [])
row move_row = (codes "move", N ∷ KEY ∷ K ∷ [])
row put_field = (codes "put", N ∷ KEY ∷ N ∷ LIT ∷ [])
row computed = (codes "computed", N ∷ mark (codes "=") ∷ FORMULA ∷ in_O ∷ [])
row computed_host = (codes "computed", N ∷ mark (codes "=") ∷ says (codes "host") ∷ K ∷ ARGUMENTS ∷ in_O ∷ [])
row rewire = (codes "rewire", N ∷ mark (codes "=") ∷ FORMULA ∷ [])
row rewire_host = (codes "rewire", N ∷ mark (codes "=") ∷ says (codes "host") ∷ K ∷ ARGUMENTS ∷ [])
row owner = (codes "owner", N ∷ in_O ∷ [])
row watcher = (codes "watcher", N ∷ [])
row tries_get = (codes "watcher", N ∷ says (codes "tries") ∷ says (codes "get") ∷ N ∷ [])
row tries_set = (codes "watcher", N ∷ says (codes "tries") ∷ says (codes "set") ∷ N ∷ LIT ∷ [])
row tries_watch = (codes "watcher", N ∷ says (codes "tries") ∷ says (codes "watch") ∷ N ∷ NAMES ∷ [])
row tries_unwatch = (codes "watcher", N ∷ says (codes "tries") ∷ says (codes "unwatch") ∷ N ∷ N ∷ [])
row watch = (codes "watch", N ∷ NAMES ∷ [])
row unwatch = (codes "unwatch", N ∷ N ∷ [])
row mount = (codes "mount", N ∷ N ∷ in_O ∷ [])
row effect = (codes "effect", N ∷ in_O ∷ [])
row on = (codes "on", N ∷ K ∷ EVENT ∷ [])
row fire = (codes "fire", N ∷ K ∷ EVENT ∷ [])
row template = (codes "template", N ∷ [])
row close = (codes "end", [])

-- the rows that begin with each of the last words
abbrev pub last_rows : grammar.Table Row
last_rows =
    (codes "owner", owner ∷ [])
    ∷ (codes "watcher", watcher ∷ tries_get ∷ tries_set ∷ tries_watch ∷ tries_unwatch ∷ [])
    ∷ (codes "watch", watch ∷ [])
    ∷ (codes "unwatch", unwatch ∷ [])
    ∷ (codes "mount", mount ∷ [])
    ∷ (codes "effect", effect ∷ [])
    ∷ (codes "on", on ∷ [])
    ∷ (codes "fire", fire ∷ [])
    ∷ (codes "template", template ∷ [])
    ∷ (codes "end", close ∷ [])
    ∷ []

-- those before them too
abbrev pub later_rows : grammar.Table Row
later_rows =
    (codes "cell", cell ∷ [])
    ∷ (codes "set", set ∷ [])
    ∷ (codes "list", list ∷ [])
    ∷ (codes "insert", insert_row ∷ [])
    ∷ (codes "remove", remove_row ∷ [])
    ∷ (codes "move", move_row ∷ [])
    ∷ (codes "put", put_field ∷ [])
    ∷ (codes "computed", computed_host ∷ computed ∷ [])
    ∷ (codes "rewire", rewire_host ∷ rewire ∷ [])
    ∷ last_rows

-- these, each a row at its word, before others
abbrev pub rows_before : {A : Type 0} → (A → List ℕ) → (A → Row) → List A → grammar.Table Row → grammar.Table Row
rows_before word_of as_row [] others = others
rows_before word_of as_row (x ∷ xs) others = (word_of x, as_row x ∷ []) ∷ rows_before word_of as_row xs others

-- those of the words that aren't verbs
abbrev pub other_rows : grammar.Table Row
other_rows = rows_before bare_word bare all_bares later_rows

-- the rows that begin with each word
abbrev pub table : grammar.Table Row
table = rows_before verb_word verb all_verbs other_rows

-- what a row gives of what stands in its parts: its formula with slots for its names
abbrev pub line_makes : (r : Row) → Made (row r).1 Line
line_makes (verb v) = λ n. line.Alone (command.Named v n)
line_makes (bare b) = line.Alone (command.Bare b)
line_makes cell = λ n v k o. line.Alone (command.Cell n v k o)
line_makes set = λ n v. line.Alone (command.Set n v)
line_makes list = λ n fs o. line.Alone (command.List n fs o)
line_makes insert_row = λ n p k vs. line.Alone (command.Edit n (edit.Insert p k vs))
line_makes remove_row = λ n k. line.Alone (command.Edit n (edit.Remove k))
line_makes move_row = λ n k p. line.Alone (command.Edit n (edit.Move k p))
line_makes put_field = λ n k f v. line.Alone (command.Edit n (edit.Put k f v))
line_makes computed = λ n f o. line.Alone (command.Computed n (source.Formula (wired f)) o)
line_makes computed_host = λ n k ns o. line.Alone (command.Computed n (source.Host k ns) o)
line_makes rewire = λ n f. line.Alone (command.Rewire n (source.Formula (wired f)))
line_makes rewire_host = λ n k ns. line.Alone (command.Rewire n (source.Host k ns))
line_makes owner = λ n o. line.Alone (command.Owner n o)
line_makes watcher = λ w. line.Alone (command.Watcher w None)
line_makes tries_get = λ w n. line.Alone (command.Watcher w (Some (tried.Get n)))
line_makes tries_set = λ w n v. line.Alone (command.Watcher w (Some (tried.Set n v)))
line_makes tries_watch = λ w n ns. line.Alone (command.Watcher w (Some (tried.Watch n ns)))
line_makes tries_unwatch = λ w n m. line.Alone (command.Watcher w (Some (tried.Unwatch n m)))
line_makes watch = λ w ns. line.Alone (command.Watch w ns)
line_makes unwatch = λ w n. line.Alone (command.Unwatch w n)
line_makes mount = λ n t o. line.Alone (command.Mount n t o)
line_makes effect = λ n o. line.Effect n o
line_makes on = λ t k e. line.On t k e
line_makes fire = λ p k e. line.Alone (command.Fire p k e)
line_makes template = λ n. line.Template n
line_makes close = line.End

-- the language of the lines of a script
abbrev pub commands : grammar.Language
commands = record { Row = Row; Meaning = Line; row = row; means = line_makes; table = table }

-- what a line says by itself; its texts may be of any length, and its formulas of any height
abbrev pub Said : Type 0
Said = grammar.Said commands

-- what a line gives
abbrev pub said_line : Said → Line
said_line x = grammar.meaning_of commands x

-- bytes write a line: their tokens spell it
abbrev pub Writes : Said → List ℕ → Type 0
Writes said bytes = blocks.Writes commands said bytes

-- whether a line that gives this is a command by itself: what begins a block or ends it isn't, nor is what names fields that no list can have
abbrev pub gives_command : Line → Bool
gives_command (line.Alone (command.List n fs o)) = are_fields fs
gives_command (line.Alone (command.Edit n (edit.Put k f v))) = is_field f
gives_command (line.Alone c) = true
gives_command _ = false

-- so it is with a line that says this
abbrev pub is_alone : Said → Bool
is_alone x = gives_command (said_line x)
