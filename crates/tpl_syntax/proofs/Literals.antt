-- The texts for which literals stand, character by character.
use Rattle.std.proofs.Common.{◌≡◌, ◌<◌, ℕ, Bool, true, false, List, [], ◌∷◌, length, get_or, refl, sym, ap, ◌∙◌, inl, inr}
use Rattle.std.specs.Prelude.{◌==◌, not}
use Rattle.std.specs.Str.{IsUtf8, chars}
use Rattle.std.proofs.lemmas.Bool.{cases_Bool, and_parts, and_from}
use Rattle.std.proofs.lemmas.Option.{slice_get-get_or}
use Rattle.std.proofs.lemmas.Str.{chars-encodes, scalars-chars}
use Rattle.sig_base.specs.declared.scalar.Scalar.TheVariants as scalar
use Rattle.sig_words.specs.declared.token.Token.{Token}
use Rattle.sig_words.specs.declared.token.TokenKind.TheVariants as kind
use Rattle.sig_words.specs.Lexemes.{text_at}
use Rattle.sig_words.specs.Literals.{meaning, plain, text_of, between_quotes}
use Rattle.sig_words.specs.Tokens.{AreTokens}
use Rattle.sig_words.proofs.Shared.{each_token, literal_utf8}
use Rattle.formula_text.specs.Grammar.{leaf}
use Rattle.formula_text.specs.Signs.{constant}
use Rattle.formula_text.specs.Rough.{bytes_at, IsLiteralAt}
use Rattle.tpl_syntax.specs.Refusals.{has_end, is_bare}
use lib.Utf8.{scalar as is_scalar, scalars}

meant : (c : ℕ) → is_scalar c ≡ true → is_scalar (meaning c) ≡ true
meant c s = elim (cases_Bool (c == 110)) [
  | inl e ↦ rw e refl
  | inr e ↦ elim (cases_Bool (c == 114)) [
    | inl f ↦ rw (e, f) refl
    | inr f ↦ elim (cases_Bool (c == 116)) [ inl g ↦ rw (e, f, g) refl | inr g ↦ rw (e, f, g) s ]
  ]
]

plain_scalars : (behind : Bool) (cs : List ℕ) → scalars cs ≡ true → scalars (plain behind cs) ≡ true
plain_scalars behind [] h = refl
plain_scalars true (c ∷ cs) h =
    let both = and_parts (is_scalar c) (scalars cs) h in
    and_from (is_scalar (meaning c)) (scalars (plain false cs)) (meant c both.0) (plain_scalars false cs both.1)
plain_scalars false (c ∷ cs) h =
    let both = and_parts (is_scalar c) (scalars cs) h in
    elim (cases_Bool (c == 92)) [
      | inl e ↦ rw e (plain_scalars true cs both.1)
      | inr e ↦ rw e (and_from (is_scalar c) (scalars (plain false cs)) both.0 (plain_scalars false cs both.1))
    ]

-- the characters of the text for which a literal stands
literal_chars : (inner : List ℕ) → IsUtf8 inner → chars (text_of inner) ≡ plain false (chars inner)
unfolding text_of
literal_chars inner u = chars-encodes (plain false (chars inner)) (plain_scalars false (chars inner) (scalars-chars inner u))

at_place : (line : List ℕ) (ts : List Token) (place : ℕ) (d : Token) → place < length ts → bytes_at line ts place ≡ text_at line (get_or ts place d)
at_place line ts place d h = rw (slice_get-get_or ts place d h) refl

literal_place : (ts : List Token) (place : ℕ) (d : Token) → place < length ts → IsLiteralAt ts place → (get_or ts place d).kind ≡ kind.Literal
literal_place ts place d h l = rw (slice_get-get_or ts place d h) at l

-- what stands between the quotes of a literal of a line is UTF-8
pub inner_utf8 : (line : List ℕ) (ts : List Token) (place : ℕ) (d : Token) → AreTokens line ts → place < length ts → IsLiteralAt ts place
    → IsUtf8 (between_quotes (text_at line (get_or ts place d)))
inner_utf8 line ts place d a h l =
    literal_utf8 line (get_or ts place d) (each_token line ts a place d h) (literal_place ts place d h l)

-- whether the text of a literal has `</` is told by what stands between its quotes
pub bare_literal : (line : List ℕ) (ts : List Token) (place : ℕ) (d : Token) → AreTokens line ts → place < length ts → IsLiteralAt ts place
    → not (has_end false (plain false (chars (between_quotes (text_at line (get_or ts place d))))))
    ≡ is_bare (leaf (constant (scalar.Text (text_of (between_quotes (bytes_at line ts place))))))
bare_literal line ts place d a h l =
    let inner = between_quotes (text_at line (get_or ts place d)) in
    ap (λ (cs : List ℕ). not (has_end false cs)) (sym (literal_chars inner (inner_utf8 line ts place d a h l)))
    ∙ ap (λ (bytes : List ℕ). not (has_end false (chars (text_of (between_quotes bytes))))) (sym (at_place line ts place d h))
