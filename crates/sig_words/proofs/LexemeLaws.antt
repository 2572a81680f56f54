-- What a token says, by its kind.
use Rattle.std.proofs.Common.{◌≡◌, ℕ, ℤ, List, drop, ap, refl}
use Rattle.sig_words.specs.declared.token.TokenKind.{TokenKind}
use Rattle.sig_words.specs.declared.token.TokenKind.TheVariants as kind
use Rattle.sig_words.specs.declared.token.Token.{Token}
use Rattle.sig_words.specs.Literals.{text_of, between_quotes}
use Rattle.sig_words.specs.Lexemes.{word, tag, number, literal, symbol, text_at, lexeme_of, lexeme}

pub lexeme-Word : (line : List ℕ) (t : Token) → t.kind ≡ kind.Word → lexeme line t ≡ word (text_at line t)
lexeme-Word line t e = ap (λ (k : TokenKind). lexeme_of k (text_at line t)) e

pub lexeme-Tag : (line : List ℕ) (t : Token) → t.kind ≡ kind.Tag → lexeme line t ≡ tag (drop 1 (text_at line t))
lexeme-Tag line t e = ap (λ (k : TokenKind). lexeme_of k (text_at line t)) e

pub lexeme-Number : (line : List ℕ) (t : Token) (z : ℤ) → t.kind ≡ kind.Number z → lexeme line t ≡ number z
lexeme-Number line t z e = ap (λ (k : TokenKind). lexeme_of k (text_at line t)) e

pub lexeme-Literal : (line : List ℕ) (t : Token) → t.kind ≡ kind.Literal → lexeme line t ≡ literal (text_of (between_quotes (text_at line t)))
lexeme-Literal line t e = ap (λ (k : TokenKind). lexeme_of k (text_at line t)) e

pub lexeme-Symbol : (line : List ℕ) (t : Token) → t.kind ≡ kind.Symbol → lexeme line t ≡ symbol (text_at line t)
lexeme-Symbol line t e = ap (λ (k : TokenKind). lexeme_of k (text_at line t)) e

of_word : (k : TokenKind) (text w : List ℕ) → lexeme_of k text ≡ word w → (k ≡ kind.Word) × (text ≡ w)
of_word kind.Word text w e = (refl, cc)
of_word kind.Tag text w e = absurd cc
of_word (kind.Number z) text w e = absurd cc
of_word kind.Literal text w e = absurd cc
of_word kind.Symbol text w e = absurd cc

-- what says a word is a word token of those bytes
pub says_word : (line : List ℕ) (t : Token) (w : List ℕ) → lexeme line t ≡ word w → (t.kind ≡ kind.Word) × (text_at line t ≡ w)
says_word line t w e = of_word t.kind (text_at line t) w e

of_tag : (k : TokenKind) (text name : List ℕ) → lexeme_of k text ≡ tag name → (k ≡ kind.Tag) × (drop 1 text ≡ name)
of_tag kind.Word text name e = absurd cc
of_tag kind.Tag text name e = (refl, cc)
of_tag (kind.Number z) text name e = absurd cc
of_tag kind.Literal text name e = absurd cc
of_tag kind.Symbol text name e = absurd cc

-- what says a tag is a tag token of that name
pub says_tag : (line : List ℕ) (t : Token) (name : List ℕ) → lexeme line t ≡ tag name → (t.kind ≡ kind.Tag) × (drop 1 (text_at line t) ≡ name)
says_tag line t name e = of_tag t.kind (text_at line t) name e

of_number : (k : TokenKind) (text : List ℕ) (v : ℤ) → lexeme_of k text ≡ number v → k ≡ kind.Number v
of_number kind.Word text v e = absurd cc
of_number kind.Tag text v e = absurd cc
of_number (kind.Number z) text v e = cc
of_number kind.Literal text v e = absurd cc
of_number kind.Symbol text v e = absurd cc

-- what says a number is a token of that number
pub says_number : (line : List ℕ) (t : Token) (v : ℤ) → lexeme line t ≡ number v → t.kind ≡ kind.Number v
says_number line t v e = of_number t.kind (text_at line t) v e

of_literal : (k : TokenKind) (text value : List ℕ) → lexeme_of k text ≡ literal value → (k ≡ kind.Literal) × (text_of (between_quotes text) ≡ value)
of_literal kind.Word text value e = absurd cc
of_literal kind.Tag text value e = absurd cc
of_literal (kind.Number z) text value e = absurd cc
of_literal kind.Literal text value e = (refl, cc)
of_literal kind.Symbol text value e = absurd cc

-- what says a text is a literal of that value
pub says_literal : (line : List ℕ) (t : Token) (value : List ℕ) → lexeme line t ≡ literal value → (t.kind ≡ kind.Literal) × (text_of (between_quotes (text_at line t)) ≡ value)
says_literal line t value e = of_literal t.kind (text_at line t) value e

of_symbol : (k : TokenKind) (text s : List ℕ) → lexeme_of k text ≡ symbol s → (k ≡ kind.Symbol) × (text ≡ s)
of_symbol kind.Word text s e = absurd cc
of_symbol kind.Tag text s e = absurd cc
of_symbol (kind.Number z) text s e = absurd cc
of_symbol kind.Literal text s e = absurd cc
of_symbol kind.Symbol text s e = (refl, cc)

-- what says a symbol is a symbol token of those bytes
pub says_symbol : (line : List ℕ) (t : Token) (s : List ℕ) → lexeme line t ≡ symbol s → (t.kind ≡ kind.Symbol) × (text_at line t ≡ s)
says_symbol line t s e = of_symbol t.kind (text_at line t) s e
