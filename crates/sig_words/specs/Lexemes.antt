-- What the tokens of a line say, apart from where they stand.
use Rattle.std.specs.Prelude.{ℕ, ℤ, ◌-◌, List, map, take, drop}
use Rattle.sig_words.specs.declared.token.Token.{Token}
use Rattle.sig_words.specs.declared.token.TokenKind.{TokenKind}
use Rattle.sig_words.specs.declared.token.TokenKind.TheVariants as kind
use Rattle.sig_words.specs.Literals.{text_of, between_quotes}

-- what a token says
pub data Lexeme : Type 0 where
  -- its bytes
  word : List ℕ → Lexeme
  -- the name behind @
  tag : List ℕ → Lexeme
  number : ℤ → Lexeme
  -- the bytes of the text that it stands for
  literal : List ℕ → Lexeme
  -- its bytes
  symbol : List ℕ → Lexeme

-- the bytes of a token of this line
abbrev pub text_at : List ℕ → Token → List ℕ
text_at line t = take (t.end - t.start) (drop t.start line)

-- what a token of this kind and these bytes says
abbrev pub lexeme_of : TokenKind → List ℕ → Lexeme
lexeme_of kind.Word text = word text
lexeme_of kind.Tag text = tag (drop 1 text)
lexeme_of (kind.Number z) text = number z
lexeme_of kind.Literal text = literal (text_of (between_quotes text))
lexeme_of kind.Symbol text = symbol text

-- what a token of this line says
abbrev pub lexeme : List ℕ → Token → Lexeme
lexeme line t = lexeme_of t.kind (text_at line t)

-- what the tokens of this line say, one by one
abbrev pub lexemes : List ℕ → List Token → List Lexeme
lexemes line ts = map (lexeme line) ts
