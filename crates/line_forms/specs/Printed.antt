-- Lines as they are printed.
use Rattle.std.specs.Prelude.{ℕ, List, [], ◌∷◌, ◌++◌, map, Option, Some, None, codes}
use Rattle.std.specs.Fmt.{signed_decimal}
use Rattle.sig_base.specs.Printer.{printed_scalar}
use Rattle.sig_base.specs.declared.scalar.Scalar.TheVariants as scalar
use Rattle.sig_words.specs.Lexemes.{Lexeme, word, tag, number, literal, symbol}
use Rattle.formula_text.specs.Canonical.{canonical_text}
use Rattle.line_forms.specs.Forms.{One, Part, one, perhaps, many, listed, arguments, formula, name, Form, fixed, part, Of, Contents, Args, token_of}
use Rattle.line_forms.specs.Rows.{Language, Said}

-- the bytes of a token
abbrev pub token_text : Lexeme → List ℕ
token_text (word w) = w
token_text (tag n) = 64 ∷ n
token_text (number z) = signed_decimal z
token_text (literal t) = printed_scalar (scalar.Text t)
token_text (symbol s) = s

-- each token behind one blank
abbrev pub spaced : List Lexeme → List ℕ
spaced [] = []
spaced (l ∷ ls) = 32 ∷ (token_text l ++ spaced ls)

-- the rest of a list behind its first
abbrev pub behind_tokens : (o : One) → List (Of o) → List Lexeme
behind_tokens o [] = symbol (codes ")") ∷ []
behind_tokens o (v ∷ vs) = symbol (codes ",") ∷ token_of o v ∷ behind_tokens o vs

-- a list behind its opening parenthesis
abbrev pub opened_tokens : (o : One) → List (Of o) → List Lexeme
opened_tokens o [] = symbol (codes ")") ∷ []
opened_tokens o (v ∷ vs) = token_of o v ∷ behind_tokens o vs

-- the word and its token, if it is there
abbrev pub perhaps_tokens : List ℕ → (o : One) → Option (Of o) → List Lexeme
perhaps_tokens w o None = []
perhaps_tokens w o (Some v) = word w ∷ token_of o v ∷ []

-- the text of a part, a formula in its canonical form
abbrev pub part_text : (p : Part) → Contents p → List ℕ
part_text (one o) v = spaced (token_of o v ∷ [])
part_text (perhaps w o) v = spaced (perhaps_tokens w o v)
part_text (many o) vs = spaced (map (token_of o) vs)
part_text (listed o) vs = spaced (symbol (codes "(") ∷ opened_tokens o vs)
part_text arguments ns = spaced (symbol (codes "(") ∷ opened_tokens name ns)
part_text formula f = 32 ∷ canonical_text f

-- the text of a line behind its first word
abbrev pub form_text : (ps : Form) → Args ps → List ℕ
form_text [] a = []
form_text (fixed l ∷ ps) a = 32 ∷ (token_text l ++ form_text ps a)
form_text (part p ∷ ps) a = part_text p a.0 ++ form_text ps a.1

-- the text of a line
abbrev pub line_text : (language : Language) → Said language → List ℕ
line_text language x = (language.row x.0).0 ++ form_text (language.row x.0).1 x.1

-- a line, and the LF that ends it
abbrev pub ended : List ℕ → List ℕ
ended l = l ++ codes "\n"
