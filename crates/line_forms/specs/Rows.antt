-- Languages of lines: a row for each line, which is its first word and the form of what follows it.
use Rattle.std.specs.Prelude.{◌≡◌, ◌⊎◌, ℕ, Bool, true, ◌&&◌, if◌then◌else◌, List, [], ◌∷◌, Option, None, option_map}
use Rattle.std.specs.Option.{option_or}
use Rattle.std.specs.Str.{bytes_eq}
use Rattle.sig_words.specs.Lexemes.{Lexeme, word}
use Rattle.line_forms.specs.Forms.{Form, Args, SpellsForm}
use Rattle.line_forms.specs.Reader.{read_form, is_clear, apart}
use Rattle.line_forms.specs.Told.{Made, made}

-- a line's first word, and the form of what follows it
abbrev pub Line : Type 0
Line = List ℕ × Form

-- the rows that begin with each word; where they are more than one, they are tried from left to right
abbrev pub Table : Type 0 → Type 0
Table R = List (List ℕ × List R)

-- the rows of a word
abbrev pub rows_of : {R : Type 0} → List ℕ → Table R → List R
rows_of w [] = []
rows_of w (e ∷ es) = if bytes_eq w e.0 then e.1 else rows_of w es

-- a language of lines: its rows, what stands in each, what a row means of what stands in its parts, and the rows that begin with each word
pub record Language : Type 1 where
  pub Row : Type 0
  pub Meaning : Type 0
  pub row : Row → Line
  pub means : (r : Row) → Made (row r).1 Meaning
  pub table : Table Row

-- what a line says: which row it is, and what stands in its parts; its texts may be of any length, and its formulas of any height
abbrev pub Said : Language → Type 0
Said language = (r : language.Row) × Args (language.row r).1

-- what it means
abbrev pub meaning_of : (language : Language) → Said language → language.Meaning
meaning_of language x = made (language.row x.0).1 (language.means x.0) x.1

-- these tokens spell a line
abbrev pub Spells : (language : Language) → Said language → List Lexeme → Type 0
Spells language x ls = (rest : List Lexeme) × (ls ≡ word (language.row x.0).0 ∷ rest) × SpellsForm (language.row x.0).1 x.1 rest

-- the first of the rows as which the tokens behind the first word are read
abbrev pub first_of : (language : Language) → List language.Row → List Lexeme → Option (Said language)
first_of language [] ls = None
first_of language (r ∷ rs) ls = option_or (option_map (λ a. (r, a)) (read_form (language.row r).1 ls)) (first_of language rs ls)

-- what tokens say
abbrev pub said_of : (language : Language) → List Lexeme → Option (Said language)
said_of language (word w ∷ ls) = first_of language (rows_of w language.table) ls
said_of language _ = None

-- each of these rows begins with the word
abbrev pub all_begin : (language : Language) → List ℕ → List language.Row → Bool
all_begin language w [] = true
all_begin language w (r ∷ rs) = bytes_eq (language.row r).0 w && all_begin language w rs

-- each row stands at its word
abbrev pub each_begins : (language : Language) → Table language.Row → Bool
each_begins language [] = true
each_begins language (e ∷ es) = all_begin language e.0 e.1 && each_begins language es

-- the row is among them, and apart from those before it
abbrev pub Reaches : (language : Language) → language.Row → List language.Row → Type 0
Reaches language r [] = ⊥
Reaches language r (u ∷ us) = (u ≡ r) ⊎ ((apart (language.row u).1 (language.row r).1 ≡ true) × Reaches language r us)

-- Tokens are read as a line exactly where they spell it: each row stands at its word, is reached from there, and each of its
-- parts ends where it can't go on.
pub record IsGrammar (language : Language) : Type 0 where
  pub begins : each_begins language language.table ≡ true
  pub reached : (r : language.Row) → Reaches language r (rows_of (language.row r).0 language.table)
  pub clear : (r : language.Row) → is_clear (language.row r).1 ≡ true
