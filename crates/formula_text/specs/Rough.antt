-- Formulas whose leaves are places of tokens.
use Rattle.std.specs.declared.boxed.Box.{Box}
use Rattle.std.specs.Prelude.{◌≡◌, ℕ, ◌<◌, ◌≤◌, true, List, [], length, drop, slice_get, Option, Some, None, IfSome}
use Rattle.sig_base.specs.Words.{is_name}
use Rattle.sig_base.specs.declared.scalar.Scalar.TheVariants as scalar
use Rattle.sig_words.specs.declared.token.Token.{Token}
use Rattle.sig_words.specs.declared.token.TokenKind.TheVariants as kind
use Rattle.sig_words.specs.Lexemes.{text_at, lexemes}
use Rattle.sig_words.specs.Literals.{text_of, between_quotes}
use Rattle.formula_text.specs.declared.rough.Rough.{Rough}
use Rattle.formula_text.specs.declared.rough.Rough.TheVariants as r
use Rattle.formula_text.specs.declared.sign.Sign.{Sign as Seen}
use Rattle.formula_text.specs.declared.sign.Sign.TheVariants as seen
use Rattle.formula_text.specs.Signs.{Sign, name, constant, signs}
use Rattle.formula_text.specs.Signs as t
use Rattle.formula_text.specs.Grammar.{Draft, leaf, negation, binary, choice, of_row, one_part, each_row}
use Rattle.formula_text.specs.Parser.{Part}

-- the text between the quotes of a literal
abbrev pub inside : List ℕ → List ℕ
inside text = text_of (between_quotes text)

-- the bytes of a token, if there is one
abbrev pub bytes_of : List ℕ → Option Token → List ℕ
bytes_of line None = []
bytes_of line (Some t) = text_at line t

-- the bytes of the token at a place
abbrev pub bytes_at : List ℕ → List Token → ℕ → List ℕ
bytes_at line tokens place = bytes_of line (slice_get tokens place)

-- a literal stands at the place
abbrev pub IsLiteralAt : List Token → ℕ → Type 0
IsLiteralAt tokens place = IfSome (slice_get tokens place) (λ t. t.kind ≡ kind.Literal)

-- the formula that the places stand for
abbrev pub draft : List ℕ → List Token → Rough → Draft
draft line tokens (r.Name place) = leaf (name (bytes_at line tokens place))
draft line tokens (r.Text place) = leaf (constant (scalar.Text (inside (bytes_at line tokens place))))
draft line tokens (r.Number n) = leaf (constant (scalar.Int n))
draft line tokens (r.Truth b) = leaf (constant (scalar.Bool b))
draft line tokens (r.Not' p a) = negation (draft line tokens a)
draft line tokens (r.Bin' o p a q b) = binary o (draft line tokens a) (draft line tokens b)
draft line tokens (r.If' p w q a s b) = choice (draft line tokens w) (draft line tokens a) (draft line tokens b)
draft line tokens (r.It place) = of_row (bytes_at line tokens place)
draft line tokens (r.Around' f p a) = one_part f (draft line tokens a)
draft line tokens (r.OverRows' f p a q b) = each_row f (draft line tokens a) (draft line tokens b)

-- each place of a name has a token that is one, and each place of a text a literal
abbrev pub HasLeaves : List ℕ → List Token → Rough → Type 0
HasLeaves line tokens (r.Name place) = (place < length tokens) × (is_name (bytes_at line tokens place) ≡ true)
HasLeaves line tokens (r.Text place) = (place < length tokens) × IsLiteralAt tokens place
HasLeaves line tokens (r.Number n) = Unit {0}
HasLeaves line tokens (r.Truth b) = Unit {0}
HasLeaves line tokens (r.Not' p a) = HasLeaves line tokens a
HasLeaves line tokens (r.Bin' o p a q b) = HasLeaves line tokens a × HasLeaves line tokens b
HasLeaves line tokens (r.If' p w q a s b) = HasLeaves line tokens w × HasLeaves line tokens a × HasLeaves line tokens b
HasLeaves line tokens (r.It place) = (place < length tokens) × (is_name (bytes_at line tokens place) ≡ true)
HasLeaves line tokens (r.Around' f p a) = HasLeaves line tokens a
HasLeaves line tokens (r.OverRows' f p a q b) = HasLeaves line tokens a × HasLeaves line tokens b

-- the sign of a token with these bytes
abbrev pub sign_of : List ℕ → Seen → Sign
sign_of text seen.Name = t.leaf (name text)
sign_of text seen.Text = t.leaf (constant (scalar.Text (inside text)))
sign_of text (seen.Number n) = t.leaf (constant (scalar.Int n))
sign_of text (seen.Truth b) = t.leaf (constant (scalar.Bool b))
sign_of text (seen.Operator o) = t.operator o
sign_of text seen.Not = t.not_word
sign_of text seen.If = t.if_word
sign_of text seen.Then = t.then_word
sign_of text seen.Else = t.else_word
sign_of text (seen.Around f) = t.around f
sign_of text (seen.OverRows f) = t.over_rows f
sign_of text seen.It = t.it_word
sign_of text seen.Open = t.opening
sign_of text seen.Close = t.closing
sign_of text seen.Comma = t.comma
sign_of text seen.Dot = t.dot
sign_of text seen.Other = t.other

-- a token that is seen as a name is one, and one that is seen as a text is a literal
abbrev pub IsSeen : List ℕ → Token → Seen → Type 0
IsSeen line token seen.Name = is_name (text_at line token) ≡ true
IsSeen line token seen.Text = token.kind ≡ kind.Literal
IsSeen line token _ = Unit {0}

-- the same at a place
abbrev pub IsSeenAt : List ℕ → List Token → ℕ → Seen → Type 0
IsSeenAt line tokens place seen.Name = is_name (bytes_at line tokens place) ≡ true
IsSeenAt line tokens place seen.Text = IsLiteralAt tokens place
IsSeenAt line tokens place _ = Unit {0}

-- the signs from a place on
unfoldable pub signs_from : List ℕ → List Token → ℕ → List Sign
signs_from line tokens at = signs (lexemes line (drop at tokens))

-- what was read of the tokens: a formula, its rule, and the place after it
abbrev pub RoughPart : Type 0
RoughPart = Rough × ℕ × ℕ

-- the same, of a formula in a box
abbrev pub unboxed : {Z : Type 0} → Box Rough Z × ℕ × ℕ → RoughPart
unboxed p = (p.0.value, p.1, p.2)

-- the same of the signs
abbrev pub part_of : List ℕ → List Token → RoughPart → Part
part_of line tokens p = (draft line tokens p.0, p.1, signs_from line tokens p.2)

-- what was read from a place on ends at a later place, within the tokens, and its names and texts stand at tokens of their kinds
pub record IsPartFrom (line : List ℕ) (tokens : List Token) (at : ℕ) (p : RoughPart) : Type 0 where
  pub shorter : length (signs_from line tokens p.2) < length (signs_from line tokens at)
  pub within : p.2 ≤ length tokens
  pub leaves : HasLeaves line tokens p.0
