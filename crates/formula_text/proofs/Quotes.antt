-- A text between quotes is one token, which says the text.
use Rattle.std.proofs.Common.{◌≡◌, ℕ, suc, ◌<◌, ◌≤◌, true, false, get_or, List, [], ◌∷◌, ◌++◌, length, refl, sym, ap, ap₂, ◌∙◌, arith, inl, inr}
use Rattle.std.specs.Prelude.{◌==◌, encode_utf8_all}
use Rattle.std.specs.List.{flat_map}
use Rattle.std.specs.Str.{IsUtf8, chars}
use Rattle.std.proofs.lemmas.Bool.{cases_Bool, cases_lt, eqb-true, and_parts, and_from}
use Rattle.std.proofs.lemmas.Bool.Decides.{nat_tests}
use Rattle.std.proofs.lemmas.List.{append-nil}
use Rattle.std.proofs.lemmas.List.Concat.{flat_map-append}
use Rattle.std.proofs.lemmas.Str.{chars-encodes, encodes-append, encode_ascii, inside_one, IsUtf8-append}
use Rattle.sig_base.specs.declared.scalar.Scalar.TheVariants as scalar
use Rattle.sig_base.specs.Printer.{in_quotes, quoted}
use Rattle.sig_words.specs.declared.token.TokenKind.TheVariants as kind
use Rattle.sig_words.specs.Literals.{plain, text_of, between_quotes}
use Rattle.sig_words.specs.Tokens.{is_inner}
use Rattle.sig_words.proofs.Shared.{each_written, between-quoted}
use Rattle.formula_text.specs.Signs.{constant}
use Rattle.formula_text.specs.Signs as t
use Rattle.formula_text.specs.Lexer.{IsOneToken}
use lib.Utf8.{scalar as is_scalar, scalars, encode}

-- ---- the bytes that are written of a character

other_byte : (b n : ℕ) → n < b → (b == n) ≡ false
other_byte b n h = grind (arith, nat_tests)

high_byte : (b : ℕ) → 128 ≤ b → in_quotes b ≡ b ∷ []
high_byte b h =
    let e : (b == 92) ≡ false = other_byte b 92 (omega arith) in
    let f : (b == 34) ≡ false = other_byte b 34 (omega arith) in
    let g : (b == 10) ≡ false = other_byte b 10 (omega arith) in
    let i : (b == 13) ≡ false = other_byte b 13 (omega arith) in
    let j : (b == 9) ≡ false = other_byte b 9 (omega arith) in
    rw (e, f, g, i, j) refl

high_bytes : (bs : List ℕ) → ((k : ℕ) → k < length bs → 128 ≤ get_or bs k 0) → flat_map in_quotes bs ≡ bs
high_bytes [] h = refl
high_bytes (b ∷ bs) h =
    let first : 128 ≤ b = h 0 (omega arith) in
    ap₂ (λ (x y : List ℕ). x ++ y) (high_byte b first) (high_bytes bs (λ k within. h (suc k) (omega arith)))

high_character : (c : ℕ) → 128 ≤ c → flat_map in_quotes (encode c) ≡ encode c
high_character c big = high_bytes (encode c) (λ k within. elim (cases_lt (get_or (encode c) k 0) 128) [
  | inl low ↦ absurd (omega (arith, inside_one c [] (encode c) k (sym (append-nil (encode c))) within low))
  | inr high ↦ high
])

-- what is written of an ASCII character is ASCII
written_ascii : (c : ℕ) → c < 128 → encode_utf8_all (in_quotes c) ≡ in_quotes c
unfolding encode
written_ascii c small = elim (cases_Bool (c == 92)) [
  | inl e ↦ rw (eqb-true c 92 e) refl
  | inr e ↦ elim (cases_Bool (c == 34)) [
    | inl f ↦ rw (eqb-true c 34 f) refl
    | inr f ↦ elim (cases_Bool (c == 10)) [
      | inl g ↦ rw (eqb-true c 10 g) refl
      | inr g ↦ elim (cases_Bool (c == 13)) [
        | inl h ↦ rw (eqb-true c 13 h) refl
        | inr h ↦ elim (cases_Bool (c == 9)) [
          | inl k ↦ rw (eqb-true c 9 k) refl
          | inr k ↦ rw (e, f, g, h, k) (append-nil (encode c) ∙ encode_ascii c small)
        ]
      ]
    ]
  ]
]

-- by bytes and by characters the same is written of a character
one_character : (c : ℕ) → flat_map in_quotes (encode c) ≡ encode_utf8_all (in_quotes c)
one_character c = elim (cases_lt c 128) [
  | inl small ↦ ap (flat_map in_quotes) (encode_ascii c small) ∙ append-nil (in_quotes c) ∙ sym (written_ascii c small)
  | inr big ↦ high_character c big ∙ sym (append-nil (encode c)) ∙ ap encode_utf8_all (sym (high_byte c big))
]

by_bytes : (cs : List ℕ) → flat_map in_quotes (encode_utf8_all cs) ≡ encode_utf8_all (flat_map in_quotes cs)
by_bytes [] = refl
by_bytes (c ∷ cs) =
    flat_map-append in_quotes (encode c) (encode_utf8_all cs)
    ∙ ap₂ (λ (x y : List ℕ). x ++ y) (one_character c) (by_bytes cs)
    ∙ sym (encodes-append (in_quotes c) (flat_map in_quotes cs))

written_scalar : (c : ℕ) (cs : List ℕ) → is_scalar c ≡ true → scalars cs ≡ true → scalars (in_quotes c ++ cs) ≡ true
written_scalar c cs s r = elim (cases_Bool (c == 92)) [
  | inl e ↦ rw (eqb-true c 92 e) r
  | inr e ↦ elim (cases_Bool (c == 34)) [
    | inl f ↦ rw (eqb-true c 34 f) r
    | inr f ↦ elim (cases_Bool (c == 10)) [
      | inl g ↦ rw (eqb-true c 10 g) r
      | inr g ↦ elim (cases_Bool (c == 13)) [
        | inl h ↦ rw (eqb-true c 13 h) r
        | inr h ↦ elim (cases_Bool (c == 9)) [ inl k ↦ rw (eqb-true c 9 k) r | inr k ↦ rw (e, f, g, h, k) (and_from (is_scalar c) (scalars cs) s r) ]
      ]
    ]
  ]
]

written_scalars : (cs : List ℕ) → scalars cs ≡ true → scalars (flat_map in_quotes cs) ≡ true
written_scalars [] h = refl
written_scalars (c ∷ cs) h =
    let p = and_parts (is_scalar c) (scalars cs) h in
    written_scalar c (flat_map in_quotes cs) p.0 (written_scalars cs p.1)

-- ---- what stands between the quotes

quote : IsUtf8 (34 ∷ [])
unfolding encode
quote = (34 ∷ [], (refl, refl))

inner_utf8 : (text : List ℕ) → IsUtf8 text → IsUtf8 (flat_map in_quotes text)
inner_utf8 text u =
    (flat_map in_quotes u.0, (written_scalars u.0 u.1.0, sym (by_bytes u.0) ∙ ap (flat_map in_quotes) u.1.1))

-- it stands for the text
inner_says : (text : List ℕ) → IsUtf8 text → text_of (flat_map in_quotes text) ≡ text
unfolding text_of
inner_says text u =
    let written : flat_map in_quotes text ≡ encode_utf8_all (flat_map in_quotes u.0) = ap (flat_map in_quotes) (sym u.1.1) ∙ by_bytes u.0 in
    let characters : chars (flat_map in_quotes text) ≡ flat_map in_quotes u.0 =
    ap chars written ∙ chars-encodes (flat_map in_quotes u.0) (written_scalars u.0 u.1.0) in
    ap (λ (cs : List ℕ). encode_utf8_all (plain false cs)) characters ∙ ap encode_utf8_all (each_written u.0) ∙ u.1.1

bare : (b : ℕ) (bs : List ℕ) → (b == 92) ≡ false → (b == 34) ≡ false → is_inner false (b ∷ bs) ≡ is_inner false bs
bare b bs e f = rw (e, f) refl

inner_step : (b : ℕ) (bs : List ℕ) → is_inner false (in_quotes b ++ bs) ≡ is_inner false bs
inner_step b bs = elim (cases_Bool (b == 92)) [
  | inl e ↦ rw (eqb-true b 92 e) refl
  | inr e ↦ elim (cases_Bool (b == 34)) [
    | inl f ↦ rw (eqb-true b 34 f) refl
    | inr f ↦ elim (cases_Bool (b == 10)) [
      | inl g ↦ rw (eqb-true b 10 g) refl
      | inr g ↦ elim (cases_Bool (b == 13)) [
        | inl h ↦ rw (eqb-true b 13 h) refl
        | inr h ↦ elim (cases_Bool (b == 9)) [ inl k ↦ rw (eqb-true b 9 k) refl | inr k ↦ rw (e, f, g, h, k) (bare b bs e f) ]
      ]
    ]
  ]
]

pub inner_form : (bs : List ℕ) → is_inner false (flat_map in_quotes bs) ≡ true
inner_form [] = refl
inner_form (b ∷ bs) = inner_step b (flat_map in_quotes bs) ∙ inner_form bs

-- ---- the token

-- a text in quotes is UTF-8
pub quoted_utf8 : (text : List ℕ) → IsUtf8 text → IsUtf8 (quoted text)
unfolding quoted
quoted_utf8 text u =
    IsUtf8-append (34 ∷ []) (flat_map in_quotes text ++ 34 ∷ []) quote (IsUtf8-append (flat_map in_quotes text) (34 ∷ []) (inner_utf8 text u) quote)

-- a text in quotes stands for the text
pub quoted_says : (text : List ℕ) → IsUtf8 text → text_of (between_quotes (quoted text)) ≡ text
unfolding quoted
quoted_says text u = ap text_of (between-quoted (flat_map in_quotes text)) ∙ inner_says text u

pub text_token : (text : List ℕ) → IsUtf8 text → IsOneToken (constant (scalar.Text text))
unfolding quoted
text_token text u = record {
  kind_is = kind.Literal;
  plain = tt;
  form = (flat_map in_quotes text, refl, inner_form text);
  some = omega arith;
  says = ap (λ (s : List ℕ). t.leaf (constant (scalar.Text s))) (quoted_says text u);
}
