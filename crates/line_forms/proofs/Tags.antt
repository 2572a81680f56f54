-- The names behind `@`.
use Rattle.std.proofs.Common.{◌≡◌, ℕ, List, drop, subst}
use Rattle.std.specs.Str.{IsUtf8}
use Rattle.sig_words.specs.declared.token.Token.{Token}
use Rattle.sig_words.specs.declared.token.TokenKind.{TokenKind}
use Rattle.sig_words.specs.declared.token.TokenKind.TheVariants as kind
use Rattle.sig_words.specs.Lexemes.{text_at}
use Rattle.sig_words.specs.Tokens.{Form, IsTokenOf}
use Rattle.sig_words.proofs.Shared.{tag_utf8}

name_utf8 : (text : List ℕ) → Form kind.Tag text → IsUtf8 (drop 1 text)
name_utf8 text f = rw f.1 (tag_utf8 f.0 f.2)

-- the name that a token says behind `@` is UTF-8
pub tagged_utf8 : (line : List ℕ) (t : Token) → IsTokenOf line t → t.kind ≡ kind.Tag → IsUtf8 (drop 1 (text_at line t))
tagged_utf8 line t i e = name_utf8 (text_at line t) (subst (λ (k : TokenKind). Form k (text_at line t)) e i.token.form)
