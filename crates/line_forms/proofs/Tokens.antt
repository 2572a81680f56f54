-- Tokens as they are printed.
use Rattle.std.proofs.Common.{◌≡◌, ℕ, ◌<◌, Bool, true, false, List, [], ◌∷◌, length, refl, ap, arith}
use Rattle.std.specs.Char.{is_ascii_digit}
use Rattle.std.specs.Fmt.{signed_decimal}
use Rattle.std.specs.List.{flat_map}
use Rattle.std.specs.Prelude.{ℤ, ◌==◌, ◌&&◌, slice_index}
use Rattle.std.specs.Str.{IsUtf8}
use Rattle.std.proofs.lemmas.Bool.{lt-ltb}
use Rattle.std.proofs.lemmas.Bool.Decides.{nat_tests}
use Rattle.std.proofs.lemmas.Str.{IsUtf8-append}
use Rattle.sig_base.specs.Printer.{in_quotes, quoted}
use Rattle.sig_base.specs.Words.{in_tag, in_word, is_word}
use Rattle.sig_words.specs.declared.token.TokenKind.{TokenKind}
use Rattle.sig_words.specs.declared.token.TokenKind.TheVariants as kind
use Rattle.sig_words.specs.Lexemes.{Lexeme, word, tag, number, literal, symbol, lexeme_of}
use Rattle.sig_words.specs.Tokens.{IsToken, is_one, is_two, IsSymbol}
use Rattle.sig_words.proofs.Shared.{word_utf8, tag_utf8, numeric}
use Rattle.formula_text.proofs.Shared.{inner_form, quoted_says, quoted_utf8, are_ascii, ascii, number_utf8}
use Rattle.line_forms.specs.Printed.{token_text}
use Rattle.line_forms.proofs.Printable.{IsWritten}

-- nothing, or a blank
abbrev pub EndsToken : List ℕ → Type 0
EndsToken [] = Unit {0}
EndsToken (b ∷ bs) = b ≡ 32

-- its text is one token between blanks
pub record Prints (l : Lexeme) : Type 0 where
  pub kind_is : TokenKind
  pub some : 0 < length (token_text l)
  pub says : lexeme_of kind_is (token_text l) ≡ l
  pub token : (next : List ℕ) → EndsToken next → IsToken true kind_is (token_text l) next

-- ---- what ends a token lengthens none

pub ends_word : (next : List ℕ) → EndsToken next → in_word (slice_index next 0) ≡ false
ends_word [] e = refl
ends_word (c ∷ cs) e = rw e refl

ends_tag : (next : List ℕ) → EndsToken next → in_tag (slice_index next 0) ≡ false
ends_tag [] e = refl
ends_tag (c ∷ cs) e = rw e refl

not_both : (b : Bool) → (b && false) ≡ false
not_both true = refl
not_both false = refl

ends_symbol : (b : ℕ) (next : List ℕ) → EndsToken next → is_two b (slice_index next 0) ≡ false
ends_symbol b [] e = not_both (b == 43)
ends_symbol b (c ∷ cs) e = rw e (not_both (b == 43))

no_digit : (next : List ℕ) → EndsToken next → (true && is_ascii_digit (slice_index next 0)) ≡ false
no_digit [] e = refl
no_digit (c ∷ cs) e = rw e refl

-- ---- each kind of token

pub word_some : (w : List ℕ) → is_word w ≡ true → 0 < length w
word_some [] h = absurd cc
word_some (b ∷ bs) h = omega arith

symbol_prints : (s : List ℕ) → IsSymbol s → Prints (symbol s)
symbol_prints [] h = absurd h
symbol_prints (b ∷ []) h = record {
  kind_is = kind.Symbol;
  some = omega arith;
  says = refl;
  token = λ next e. record { form = h; ends = λ _. ends_symbol b next e; signed = λ _. no_digit next e };
}
symbol_prints (b ∷ c ∷ []) h = record {
  kind_is = kind.Symbol;
  some = omega arith;
  says = refl;
  token = λ next e. record { form = h; ends = λ f. absurd (omega arith); signed = λ f. absurd cc };
}
symbol_prints (b ∷ c ∷ d ∷ bs) h = absurd h

literal_prints : (t : List ℕ) → IsUtf8 t → Prints (literal t)
unfolding quoted
literal_prints t u = record {
  kind_is = kind.Literal;
  some = omega arith;
  says = ap (λ (x : List ℕ). literal x) (quoted_says t u);
  token = λ next e. record { form = (flat_map in_quotes t, refl, inner_form t); ends = tt; signed = tt };
}

number_some : (z : ℤ) → IsWritten (number z) → 0 < length (signed_decimal z)
number_some z f = let n = numeric z f in rw n.is (omega arith)

-- what a token can say is printed as one
pub prints : (l : Lexeme) → IsWritten l → Prints l
prints (word w) h = record { kind_is = kind.Word; some = word_some w h; says = refl; token = λ next e. record { form = h; ends = ends_word next e; signed = tt } }
prints (tag n) h = record {
  kind_is = kind.Tag;
  some = omega arith;
  says = refl;
  token = λ next e. record { form = (n, refl, h.0, h.1); ends = ends_tag next e; signed = tt };
}
prints (number z) h = record {
  kind_is = kind.Number z;
  some = number_some z h;
  says = refl;
  token = λ next e. record { form = (h, refl); ends = ends_word next e; signed = λ _. refl };
}
prints (literal t) h = literal_prints t h
prints (symbol s) h = symbol_prints s h

-- ---- they are UTF-8

one_small : (b : ℕ) → is_one b ≡ true → b < 128
one_small b h = grind (arith, nat_tests)

two_small : (b c : ℕ) → is_two b c ≡ true → (b < 128) × (c < 128)
two_small b c h = (grind (arith, nat_tests), grind (arith, nat_tests))

symbol_ascii : (s : List ℕ) → IsSymbol s → are_ascii s ≡ true
symbol_ascii [] h = absurd h
symbol_ascii (b ∷ []) h = rw (lt-ltb b 128 (one_small b h)) refl
symbol_ascii (b ∷ c ∷ []) h = let both = two_small b c h in rw (lt-ltb b 128 both.0, lt-ltb c 128 both.1) refl
symbol_ascii (b ∷ c ∷ d ∷ bs) h = absurd h

pub lexeme_utf8 : (l : Lexeme) → IsWritten l → IsUtf8 (token_text l)
lexeme_utf8 (word w) h = word_utf8 w h
lexeme_utf8 (tag n) h = IsUtf8-append (64 ∷ []) n (ascii (64 ∷ []) refl) (tag_utf8 n h.0)
lexeme_utf8 (number z) h = number_utf8 (signed_decimal z) (numeric z h)
lexeme_utf8 (literal t) h = quoted_utf8 t h
lexeme_utf8 (symbol s) h = ascii s (symbol_ascii s h)
