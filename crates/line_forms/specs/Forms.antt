-- What stands behind the first word of a line, as data, and which tokens spell it.
use Rattle.std.specs.Prelude.{◌≡◌, ℕ, pos, Bool, true, false, ◌&&◌, not, List, [], ◌∷◌, ◌++◌, Option, Some, None, codes, IsTrue}
use Rattle.std.specs.List.{list_any}
use Rattle.std.specs.Str.{bytes_eq}
use Rattle.sig_base.specs.declared.scalar.Scalar.{Scalar}
use Rattle.sig_base.specs.declared.scalar.Scalar.TheVariants as scalar
use Rattle.sig_base.specs.Words.{is_name}
use Rattle.sig_words.specs.Lexemes.{Lexeme, word, tag, number, literal, symbol}
use Rattle.formula_text.specs.Grammar.{Draft, IsFormula}

-- what one token says
pub data One : Type 0 where
  name : One
  -- `true`, `false`, a number or a text
  value : One
  -- a text
  key : One
  -- a number without sign
  count : One
  -- a name behind @
  tagged : One

-- a part of a line that says something
pub data Part : Type 0 where
  -- one token
  one : One → Part
  -- nothing, or this word and one token
  perhaps : List ℕ → One → Part
  -- any number of tokens, up to the end of the line
  many : One → Part
  -- tokens between parentheses, with commas between them
  listed : One → Part
  -- names between parentheses, with commas between them, none of them twice
  arguments : Part
  -- the longest formula
  formula : Part

-- a piece of a line: this very token, or a part
pub data Piece : Type 0 where
  fixed : Lexeme → Piece
  part : Part → Piece

-- the pieces of a line behind its first word
abbrev pub Form : Type 0
Form = List Piece

-- what a token says: the bytes of a name, of a text or behind @, a value, a number
abbrev pub Of : One → Type 0
Of value = Scalar
Of count = ℕ
Of _ = List ℕ

-- what a part says
abbrev pub Contents : Part → Type 0
Contents (one o) = Of o
Contents (perhaps w o) = Option (Of o)
Contents (many o) = List (Of o)
Contents (listed o) = List (Of o)
Contents arguments = List (List ℕ)
Contents formula = Draft

-- what a line of this form says, part by part
abbrev pub Args : Form → Type 0
Args [] = Unit {0}
Args (fixed l ∷ ps) = Args ps
Args (part p ∷ ps) = Contents p × Args ps

-- the token of a value; a text may be of any length
abbrev pub scalar_token : Scalar → Lexeme
scalar_token (scalar.Bool true) = word (codes "true")
scalar_token (scalar.Bool false) = word (codes "false")
scalar_token (scalar.Int z) = number z
scalar_token (scalar.Text t) = literal t

-- the token that says it
abbrev pub token_of : (o : One) → Of o → Lexeme
token_of name n = word n
token_of value v = scalar_token v
token_of key t = literal t
token_of count k = number (pos k)
token_of tagged n = tag n

-- a name is one
abbrev pub is_good : (o : One) → Of o → Bool
is_good name n = is_name n
is_good _ v = true

-- this token says it
pub record Says (o : One) (v : Of o) (l : Lexeme) : Type 0 where
  pub written : l ≡ token_of o v
  pub good : IsTrue (is_good o v)

-- each token says its own
abbrev pub SayEach : (o : One) → List (Of o) → List Lexeme → Type 0
SayEach o [] ls = ls ≡ []
SayEach o (v ∷ vs) ls = (l : Lexeme) × (rest : List Lexeme) × (ls ≡ l ∷ rest) × Says o v l × SayEach o vs rest

-- what stands behind the first of a list: a comma before each other, and the closing parenthesis
abbrev pub SayBehind : (o : One) → List (Of o) → List Lexeme → Type 0
SayBehind o [] ls = ls ≡ symbol (codes ")") ∷ []
SayBehind o (v ∷ vs) ls = (l : Lexeme) × (rest : List Lexeme) × (ls ≡ symbol (codes ",") ∷ l ∷ rest) × Says o v l × SayBehind o vs rest

-- what stands behind the opening parenthesis of a list
abbrev pub SayListed : (o : One) → List (Of o) → List Lexeme → Type 0
SayListed o [] ls = ls ≡ symbol (codes ")") ∷ []
SayListed o (v ∷ vs) ls = (l : Lexeme) × (rest : List Lexeme) × (ls ≡ l ∷ rest) × Says o v l × SayBehind o vs rest

-- a list between parentheses
abbrev pub SayEnclosed : (o : One) → List (Of o) → List Lexeme → Type 0
SayEnclosed o vs ls = (rest : List Lexeme) × (ls ≡ symbol (codes "(") ∷ rest) × SayListed o vs rest

-- no name stands there twice
abbrev pub are_distinct : List (List ℕ) → Bool
are_distinct [] = true
are_distinct (n ∷ ns) = not (list_any (bytes_eq n) ns) && are_distinct ns

-- nothing, or the word and its token
abbrev pub SayPerhaps : List ℕ → (o : One) → Option (Of o) → List Lexeme → Type 0
SayPerhaps w o None ls = ls ≡ []
SayPerhaps w o (Some v) ls = (l : Lexeme) × (ls ≡ word w ∷ l ∷ []) × Says o v l

-- these tokens spell a part
abbrev pub SpellsPart : (p : Part) → Contents p → List Lexeme → Type 0
SpellsPart (one o) v ls = (l : Lexeme) × (ls ≡ l ∷ []) × Says o v l
SpellsPart (perhaps w o) v ls = SayPerhaps w o v ls
SpellsPart (many o) vs ls = SayEach o vs ls
SpellsPart (listed o) vs ls = SayEnclosed o vs ls
SpellsPart arguments ns ls = SayEnclosed name ns ls × IsTrue (are_distinct ns)
SpellsPart formula f ls = IsFormula ls f

-- these tokens spell a line of this form, behind its first word
abbrev pub SpellsForm : (ps : Form) → Args ps → List Lexeme → Type 0
SpellsForm [] a ls = ls ≡ []
SpellsForm (fixed l ∷ ps) a ls = (rest : List Lexeme) × (ls ≡ l ∷ rest) × SpellsForm ps a rest
SpellsForm (part p ∷ ps) a ls = (own rest : List Lexeme) × (ls ≡ own ++ rest) × SpellsPart p a.0 own × SpellsForm ps a.1 rest
