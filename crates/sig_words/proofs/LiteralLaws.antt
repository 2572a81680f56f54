-- Texts between quotes: how a character is written, and that they are UTF-8.
use Rattle.std.proofs.Common.{◌≡◌, ℕ, ◌+◌, ◌-◌, false, List, [], ◌∷◌, ◌++◌, length, drop, refl, sym, ap, ◌∙◌, inl, inr, arith, append_assoc}
use Rattle.std.specs.Prelude.{◌==◌, slice_index}
use Rattle.std.specs.List.{flat_map}
use Rattle.std.specs.Str.{IsUtf8}
use Rattle.std.proofs.lemmas.Bool.{cases_Bool, eqb-true}
use Rattle.std.proofs.lemmas.List.{take_at, length-append, take-append-drop, drop-drop}
use Rattle.std.proofs.lemmas.Str.{IsUtf8-drop, IsUtf8-take, IsCharBoundary-before_ascii, IsCharBoundary-after_ascii}
use Rattle.sig_words.specs.declared.token.TokenKind.{TokenKind}
use Rattle.sig_words.specs.declared.token.TokenKind.TheVariants.{Word, Tag, Number, Literal, Symbol}
use Rattle.sig_words.specs.declared.token.Token.{Token}
use Rattle.sig_base.specs.Printer.{in_quotes}
use Rattle.sig_words.specs.Lexemes.{text_at}
use Rattle.sig_words.specs.Literals.{plain, between_quotes}
use Rattle.sig_words.specs.Tokens.{Form, IsTokenOf}
use Rattle.sig_words.proofs.Fronts.{index_drop}

-- a character that needs no backslash
bare : (c : ℕ) (rest : List ℕ) → (c == 92) ≡ false → plain false (c ∷ rest) ≡ c ∷ plain false rest
bare c rest e = rw e refl

step : (c : ℕ) (rest : List ℕ) → plain false (in_quotes c ++ rest) ≡ c ∷ plain false rest
step c rest = elim (cases_Bool (c == 92)) [
  | inl e ↦ rw (eqb-true c 92 e) refl
  | inr e ↦ elim (cases_Bool (c == 34)) [
    | inl f ↦ rw (eqb-true c 34 f) refl
    | inr f ↦ elim (cases_Bool (c == 10)) [
      | inl g ↦ rw (eqb-true c 10 g) refl
      | inr g ↦ elim (cases_Bool (c == 13)) [
        | inl h ↦ rw (eqb-true c 13 h) refl
        | inr h ↦ elim (cases_Bool (c == 9)) [ inl k ↦ rw (eqb-true c 9 k) refl | inr k ↦ rw (e, f, g, h, k) (bare c rest e) ]
      ]
    ]
  ]
]

-- what is written of characters stands for them
pub each_written : (cs : List ℕ) → plain false (flat_map in_quotes cs) ≡ cs
each_written [] = refl
each_written (c ∷ cs) = step c (flat_map in_quotes cs) ∙ ap (λ (l : List ℕ). c ∷ l) (each_written cs)

literal_form : (k : TokenKind) (text : List ℕ) → k ≡ Literal → Form k text → Form Literal text
literal_form Word text e f = absurd cc
literal_form Tag text e f = absurd cc
literal_form (Number z) text e f = absurd cc
literal_form Literal text e f = f
literal_form Symbol text e f = absurd cc

-- what stands between the quotes
pub between-quoted : (inner : List ℕ) → between_quotes (34 ∷ (inner ++ 34 ∷ [])) ≡ inner
unfolding between_quotes
between-quoted inner = take_at inner (34 ∷ []) _ (omega (arith, length-append inner (34 ∷ [])))

-- a part of UTF-8 from a quote to the next but one byte of a quote
quoted_utf8 : (bytes inner next : List ℕ) → IsUtf8 bytes → bytes ≡ 34 ∷ (inner ++ (34 ∷ next)) → IsUtf8 inner
quoted_utf8 bytes inner next u e =
    let whole : IsUtf8 (34 ∷ (inner ++ (34 ∷ next))) = rw (← e) u in
    let behind : IsUtf8 (inner ++ (34 ∷ next)) = IsUtf8-drop (34 ∷ (inner ++ (34 ∷ next))) 1 whole (IsCharBoundary-after_ascii (34 ∷ (inner ++ (34 ∷ next))) 0 whole (omega arith) (omega arith)) in
    let at : slice_index (inner ++ (34 ∷ next)) (length inner) ≡ 34 = at_seam inner next in
    let size = length-append inner (34 ∷ next) in
    rw (take_at inner (34 ∷ next) (length inner) refl) at (IsUtf8-take (inner ++ (34 ∷ next)) (length inner) behind (IsCharBoundary-before_ascii (inner ++ (34 ∷ next)) (length inner) (omega arith) (omega arith)))
  where
    at_seam : (inner next : List ℕ) → slice_index (inner ++ (34 ∷ next)) (length inner) ≡ 34
    at_seam [] next = refl
    at_seam (b ∷ bs) next = at_seam bs next

-- what a line has from a token on
from_token : (line : List ℕ) (t : Token) → IsTokenOf line t → text_at line t ++ drop t.end line ≡ drop t.start line
from_token line t s =
    let some = s.some in
    let i : t.start + (t.end - t.start) ≡ t.end = omega arith in
    let back : drop t.end line ≡ drop (t.end - t.start) (drop t.start line) = ap (λ (k : ℕ). drop k line) (sym i) ∙ sym (drop-drop (t.end - t.start) t.start line) in
    ap (λ (l : List ℕ). text_at line t ++ l) back ∙ take-append-drop (t.end - t.start) (drop t.start line)

inner_utf8 : (line inner : List ℕ) (t : Token) → IsTokenOf line t → text_at line t ≡ 34 ∷ (inner ++ 34 ∷ []) → IsUtf8 inner
inner_utf8 line inner t i e =
    let some = i.some in let within = i.within in
    let from : drop t.start line ≡ 34 ∷ (inner ++ (34 ∷ drop t.end line)) =
    sym (from_token line t i) ∙ ap (λ (l : List ℕ). l ++ drop t.end line) e ∙ ap (λ (l : List ℕ). 34 ∷ l) (append_assoc inner (34 ∷ []) (drop t.end line)) in
    let first : slice_index line t.start ≡ 34 = sym (index_drop t.start line) ∙ ap (λ (l : List ℕ). slice_index l 0) from in
    quoted_utf8 (drop t.start line) inner (drop t.end line)
    (IsUtf8-drop line t.start i.utf8 (IsCharBoundary-before_ascii line t.start (omega arith) (omega arith))) from

-- the bytes between the quotes of a literal are UTF-8
pub literal_utf8 : (line : List ℕ) (t : Token) → IsTokenOf line t → t.kind ≡ Literal → IsUtf8 (between_quotes (text_at line t))
literal_utf8 line t i e =
    let f = literal_form t.kind (text_at line t) e i.token.form in
    rw (f.1, between-quoted f.0) (inner_utf8 line f.0 t i f.1)
