-- What is printed of a line is one line: no LF and no CR stands in it.
use Rattle.std.proofs.Common.{◌≡◌, ℕ, ◌+◌, Bool, true, false, cond, List, [], ◌∷◌, ◌++◌, map, Some, None, codes, refl, inl, inr, arith}
use Rattle.std.specs.Char.{is_ascii_digit}
use Rattle.std.specs.Fmt.{signed_decimal}
use Rattle.std.specs.List.{flat_map, list_all}
use Rattle.std.specs.Prelude.{◌==◌, ◌&&◌, nat_lt, not}
use Rattle.std.proofs.lemmas.Bool.{and_parts, and_from, cases_Bool}
use Rattle.std.proofs.lemmas.Bool.Decides.{nat_tests}
use Rattle.sig_base.specs.declared.scalar.Scalar.TheVariants as scalar
use Rattle.sig_base.specs.Printer.{in_quotes, quoted}
use Rattle.sig_base.specs.Words.{in_tag, in_word, is_tag, is_word}
use Rattle.sig_formula.specs.declared.formula.BinOp.{BinOp}
use Rattle.sig_formula.specs.declared.formula.BinOp.TheVariants as op
use Rattle.sig_words.specs.Lexemes.{Lexeme, word, tag, number, literal, symbol}
use Rattle.sig_words.specs.Tokens.{is_one, is_two, IsSymbol}
use Rattle.sig_words.proofs.Shared.{IsNumeric, numeric}
use Rattle.formula_text.specs.Canonical.{around_text, over_text, leaf_text, minimal, operator_text, written}
use Rattle.formula_text.specs.Grammar.{Draft, leaf, negation, binary, choice, of_row, one_part, each_row, Written, group, negated, chain, pick, level, before}
use Rattle.formula_text.specs.declared.rough.Around.{Around}
use Rattle.formula_text.specs.declared.rough.Around.TheVariants as forms
use Rattle.formula_text.specs.declared.rough.OverRows.{OverRows}
use Rattle.formula_text.specs.declared.rough.OverRows.TheVariants as over
use Rattle.formula_text.specs.RoundTrips.{IsPrintable, IsPrintableLeaf}
use Rattle.formula_text.specs.Signs.{Leaf, name, constant}
use Rattle.line_forms.specs.Forms.{Part, name as a_name, one, perhaps, many, listed, arguments, formula, Form, fixed, part, Contents, Args, token_of}
use Rattle.line_forms.specs.Printed.{token_text, spaced, opened_tokens, part_text, form_text}
use Rattle.line_forms.proofs.NameBytes.{name_word}
use Rattle.line_forms.proofs.Printable.{IsWritten, AreWritten, PrintsPart, PrintsForm}
use Rattle.line_forms.proofs.Lexer.{each_written, open_written, opened_written}

-- a byte that ends no line
abbrev pub in_line : ℕ → Bool
in_line b = not (b == 10) && not (b == 13)

-- all bytes are such
abbrev pub is_line : List ℕ → Bool
is_line bs = list_all in_line bs

is_line_append : (a b : List ℕ) → is_line a ≡ true → is_line b ≡ true → is_line (a ++ b) ≡ true
is_line_append [] b h k = k
is_line_append (x ∷ a) b h k = let both = and_parts (in_line x) (is_line a) h in and_from (in_line x) (is_line (a ++ b)) both.0 (is_line_append a b both.1 k)

-- ---- tokens

word_byte : (b : ℕ) → in_word b ≡ true → in_line b ≡ true
word_byte b h = grind (arith, nat_tests)

tag_byte : (b : ℕ) → in_tag b ≡ true → in_line b ≡ true
tag_byte b h = grind (arith, nat_tests)

digit_byte : (b : ℕ) → is_ascii_digit b ≡ true → in_line b ≡ true
digit_byte b h = grind (arith, nat_tests)

one_byte : (b : ℕ) → is_one b ≡ true → in_line b ≡ true
one_byte b h = grind (arith, nat_tests)

two_bytes : (b c : ℕ) → is_two b c ≡ true → (in_line b ≡ true) × (in_line c ≡ true)
two_bytes b c h = (grind (arith, nat_tests), grind (arith, nat_tests))

each_byte : (p : ℕ → Bool) (bs : List ℕ) → ((b : ℕ) → p b ≡ true → in_line b ≡ true) → list_all p bs ≡ true → is_line bs ≡ true
each_byte p [] f h = refl
each_byte p (b ∷ bs) f h = let both = and_parts (p b) (list_all p bs) h in and_from (in_line b) (is_line bs) (f b both.0) (each_byte p bs f both.1)

word_line : (w : List ℕ) → is_word w ≡ true → is_line w ≡ true
word_line [] h = absurd cc
word_line (b ∷ bs) h = each_byte in_word (b ∷ bs) word_byte (and_parts _ (list_all in_word (b ∷ bs)) h).1

tag_line : (n : List ℕ) → is_tag n ≡ true → is_line n ≡ true
tag_line [] h = absurd cc
tag_line (b ∷ bs) h =
    let both = and_parts _ (list_all in_tag bs) h in
    let first : in_line b ≡ true = grind (arith, nat_tests) in
    and_from (in_line b) (is_line bs) first (each_byte in_tag bs tag_byte both.1)

number_line : (text : List ℕ) → IsNumeric text → is_line text ≡ true
number_line text n =
    let first : in_line n.first ≡ true = elim n.begins [ inl d ↦ digit_byte n.first d | inr e ↦ rw e refl ] in
    rw n.is (and_from (in_line n.first) (is_line n.rest) first (each_byte in_word n.rest word_byte n.run))

other_byte : (b : ℕ) → (b == 10) ≡ false → (b == 13) ≡ false → in_line b ≡ true
other_byte b f g = rw (f, g) refl

quotes_line : (b : ℕ) → is_line (in_quotes b) ≡ true
quotes_line b = elim (cases_Bool (b == 92)) [
  | inl e ↦ rw e refl
  | inr e ↦ elim (cases_Bool (b == 34)) [
    | inl f ↦ rw (e, f) refl
    | inr f ↦ elim (cases_Bool (b == 10)) [
      | inl g ↦ rw (e, f, g) refl
      | inr g ↦ elim (cases_Bool (b == 13)) [
        | inl i ↦ rw (e, f, g, i) refl
        | inr i ↦ elim (cases_Bool (b == 9)) [
          | inl j ↦ rw (e, f, g, i, j) refl
          | inr j ↦ rw (e, f, g, i, j) (and_from (in_line b) true (other_byte b g i) refl)
        ]
      ]
    ]
  ]
]

inner_line : (t : List ℕ) → is_line (flat_map in_quotes t) ≡ true
inner_line [] = refl
inner_line (b ∷ t) = is_line_append (in_quotes b) (flat_map in_quotes t) (quotes_line b) (inner_line t)

quoted_line : (t : List ℕ) → is_line (quoted t) ≡ true
unfolding quoted
quoted_line t = is_line_append (flat_map in_quotes t) (34 ∷ []) (inner_line t) refl

symbol_line : (s : List ℕ) → IsSymbol s → is_line s ≡ true
symbol_line [] h = absurd h
symbol_line (b ∷ []) h = and_from (in_line b) true (one_byte b h) refl
symbol_line (b ∷ c ∷ []) h = let both = two_bytes b c h in and_from (in_line b) (is_line (c ∷ [])) both.0 (and_from (in_line c) true both.1 refl)
symbol_line (b ∷ c ∷ d ∷ bs) h = absurd h

lexeme_line : (l : Lexeme) → IsWritten l → is_line (token_text l) ≡ true
lexeme_line (word w) h = word_line w h
lexeme_line (tag n) h = tag_line n h.0
lexeme_line (number z) h = number_line (signed_decimal z) (numeric z h)
lexeme_line (literal t) h = quoted_line t
lexeme_line (symbol s) h = symbol_line s h

-- ---- formulas

leaf_line : (l : Leaf) → IsPrintableLeaf l → is_line (leaf_text l) ≡ true
leaf_line (name n) h = word_line n (name_word n h)
leaf_line (constant (scalar.Bool true)) h = refl
leaf_line (constant (scalar.Bool false)) h = refl
leaf_line (constant (scalar.Int z)) h = number_line (signed_decimal z) (numeric z h)
leaf_line (constant (scalar.Text t)) h = quoted_line t

operator_line : (o : BinOp) → is_line (operator_text o) ≡ true
operator_line op.Or = refl
operator_line _ = refl

around_line : (f : Around) → is_line (around_text f) ≡ true
around_line forms.Count = refl
around_line forms.Untrack = refl

over_line : (f : OverRows) → is_line (over_text f) ≡ true
over_line over.Sum = refl
over_line over.Keep = refl

group_line : (b : Bool) (w : Written) → is_line (written w) ≡ true → is_line (written (cond b (group w) w)) ≡ true
group_line true w h = is_line_append (written w) (codes ")") h refl
group_line false w h = h

written_line : (asked : ℕ) (x : Draft) → IsPrintable x → is_line (written (minimal asked x)) ≡ true
written_line asked (leaf l) h = leaf_line l h
written_line asked (negation x) h = group_line (nat_lt 3 asked) (negated (minimal 3 x)) (written_line 3 x h)
written_line asked (binary o x y) h =
    let right = written (minimal (level o + 1) y) in
    group_line (nat_lt (level o) asked) (chain o (minimal (before o) x) (minimal (level o + 1) y))
    (is_line_append (written (minimal (before o) x)) (codes " " ++ (operator_text o ++ (codes " " ++ right))) (written_line (before o) x h.0)
    (is_line_append (operator_text o) (codes " " ++ right) (operator_line o) (written_line (level o + 1) y h.1)))
written_line asked (choice w x y) h =
    let other = codes " else " ++ written (minimal 0 y) in
    let held = codes " then " ++ (written (minimal 0 x) ++ other) in
    group_line (nat_lt 0 asked) (pick (minimal 0 w) (minimal 0 x) (minimal 0 y))
    (is_line_append (written (minimal 0 w)) held (written_line 0 w h.0) (is_line_append (written (minimal 0 x)) other (written_line 0 x h.1) (written_line 0 y h.2)))
written_line asked (of_row n) h = is_line_append (codes "it.") n refl (word_line n (name_word n h))
written_line asked (one_part f x) h =
    let inner = written (minimal 0 x) in
    is_line_append (around_text f) (codes "(" ++ (inner ++ codes ")")) (around_line f) (is_line_append inner (codes ")") (written_line 0 x h) refl)
written_line asked (each_row f x y) h =
    let rows = written (minimal 0 x) in
    let part = written (minimal 0 y) in
    let both = rows ++ (codes ", " ++ part) in
    is_line_append (over_text f) (codes "(" ++ (both ++ codes ")")) (over_line f)
    (is_line_append both (codes ")") (is_line_append rows (codes ", " ++ part) (written_line 0 x h.0) (written_line 0 y h.1)) refl)

-- ---- lines

spaced_line : (ls : List Lexeme) → AreWritten ls → is_line (spaced ls) ≡ true
spaced_line [] h = refl
spaced_line (l ∷ ls) h = is_line_append (token_text l) (spaced ls) (lexeme_line l h.0) (spaced_line ls h.1)

part_line : (p : Part) (v : Contents p) → PrintsPart p v → is_line (part_text p v) ≡ true
part_line (one o) v p = spaced_line (token_of o v ∷ []) (p.1, tt)
part_line (perhaps w o) None p = refl
part_line (perhaps w o) (Some v) p = spaced_line (word w ∷ token_of o v ∷ []) (p.0, (p.2, tt))
part_line (many o) vs p = spaced_line (map (token_of o) vs) (each_written o vs p)
part_line (listed o) vs p = spaced_line (symbol (codes "(") ∷ opened_tokens o vs) (open_written, opened_written o vs p)
part_line arguments ns p = spaced_line (symbol (codes "(") ∷ opened_tokens a_name ns) (open_written, opened_written a_name ns p.0)
part_line formula f p = written_line 0 f p

form_line : (ps : Form) (a : Args ps) → PrintsForm ps a → is_line (form_text ps a) ≡ true
form_line [] a p = refl
form_line (fixed l ∷ ps) a p = is_line_append (token_text l) (form_text ps a) (lexeme_line l p.0) (form_line ps a p.1)
form_line (part p ∷ ps) a q = is_line_append (part_text p a.0) (form_text ps a.1) (part_line p a.0 q.0) (form_line ps a.1 q.1)

-- what is printed of a line that begins with a word
pub whole_line : (w : List ℕ) (ps : Form) (a : Args ps) → is_word w ≡ true → PrintsForm ps a → is_line (w ++ form_text ps a) ≡ true
whole_line w ps a h p = is_line_append w (form_text ps a) (word_line w h) (form_line ps a p)
