-- How texts are cut into tokens.
use Rattle.std.specs.Prelude.{◌≡◌, ℕ, ◌<◌, List, length}
use Rattle.sig_words.specs.declared.token.Token.{Token}
use Rattle.sig_words.specs.declared.token.TokenKind.{TokenKind}
use Rattle.sig_words.specs.declared.token.TokenKind.TheVariants as kind
use Rattle.sig_words.specs.Lexemes.{lexeme_of, lexemes}
use Rattle.sig_words.specs.Tokens.{Form, Cuts}
use Rattle.formula_text.specs.Signs.{Leaf, Sign, sign, signs}
use Rattle.formula_text.specs.Signs as t
use Rattle.formula_text.specs.Canonical.{leaf_text}

-- a word, a number or a literal
abbrev pub IsPlain : TokenKind → Type 0
IsPlain kind.Word = Unit {0}
IsPlain kind.Tag = ⊥
IsPlain (kind.Number z) = Unit {0}
IsPlain kind.Literal = Unit {0}
IsPlain kind.Symbol = ⊥

-- the text of a leaf is one token, which says the leaf
pub record IsOneToken (l : Leaf) : Type 0 where
  pub kind_is : TokenKind
  pub plain : IsPlain kind_is
  pub form : Form kind_is (leaf_text l)
  pub some : 0 < length (leaf_text l)
  pub says : sign (lexeme_of kind_is (leaf_text l)) ≡ t.leaf l

-- tokens of the line from one place up to another, with these signs
pub record CutsInto (line : List ℕ) (from to : ℕ) (ss : List Sign) : Type 0 where
  pub tokens : List Token
  pub cuts : Cuts line from tokens to
  pub says : signs (lexemes line tokens) ≡ ss
