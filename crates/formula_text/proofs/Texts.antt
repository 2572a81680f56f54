-- The canonical text is read back.
use Rattle.std.proofs.Common.{◌≡◌, ℕ, ℤ, ◌+◌, ◌<◌, Bool, true, false, List, [], ◌∷◌, ◌++◌, length, drop, Option, None, refl, sym, ap, subst, ◌∙◌, arith, inl, inr}
use Rattle.std.specs.Prelude.{◌&&◌, not, nat_le, codes, slice_index}
use Rattle.std.specs.Str.{bytes_eq}
use Rattle.std.specs.Int.{w64}
use Rattle.std.specs.Int.RustNames.{FitsSigned}
use Rattle.std.proofs.Math.Seq.{drop-length}
use Rattle.std.proofs.lemmas.Bool.{and_parts, cases_Bool}
use Rattle.std.proofs.lemmas.List.{append-nil}
use Rattle.std.proofs.lemmas.Slice.Eq.{bytes_eq-Decides}
use Rattle.sig_base.specs.declared.limits.TheConstants.{MOST_NAME}
use Rattle.sig_base.specs.Words.{in_word, is_name, is_word, is_reserved}
use Rattle.sig_base.specs.declared.scalar.Scalar.TheVariants as scalar
use Rattle.sig_formula.specs.declared.formula.BinOp.{BinOp}
use Rattle.sig_formula.specs.declared.formula.BinOp.TheVariants as op
use Rattle.sig_words.specs.declared.token.Token.{Token}
use Rattle.sig_words.specs.declared.token.TokenKind.TheVariants as kind
use Rattle.sig_words.specs.Lexemes.{lexemes}
use Rattle.sig_words.specs.Tokens.{AreTokens, Cuts, may_sign}
use Rattle.sig_words.proofs.Shared.{numeric, one_cutting}
use Rattle.formula_text.specs.Signs.{Leaf, Sign, name, constant, operator_or, signs, word_sign, later_word_sign, last_word_sign}
use Rattle.formula_text.specs.Signs as t
use Rattle.formula_text.specs.Operators.{found, operators, row, texts}
use Rattle.formula_text.specs.Grammar.{Draft, Spells, IsFormula, spelled}
use Rattle.formula_text.specs.Canonical.{canonical_text, minimal}
use Rattle.formula_text.specs.Lexer.{IsOneToken, CutsInto}
use Rattle.formula_text.proofs.Lexer.{HasTokens, IsKey, no_gap, cut_written}
use Rattle.formula_text.proofs.Minimal.{minimal_spells}

pub text_in_line : (x : Draft) (line : List ℕ) (from : ℕ) (back : List ℕ) → HasTokens (minimal 0 x) → drop from line ≡ canonical_text x ++ back
    → may_sign line from ≡ true → in_word (slice_index back 0) ≡ false → CutsInto line from (from + length (canonical_text x)) (spelled (minimal 0 x))
text_in_line x line from back good is sign ends = cut_written (minimal 0 x) line from from back (no_gap line from) is sign ends good

pub text_alone : (x : Draft) (ts : List Token) → HasTokens (minimal 0 x) → AreTokens (canonical_text x) ts → IsFormula (lexemes (canonical_text x) ts) x
text_alone x ts good are =
    let line = canonical_text x in
    let cut = text_in_line x line 0 [] good (sym (append-nil line)) refl refl in
    let past : drop (length line) line ≡ [] = drop-length line in
    let whole : 0 + length line ≡ length line = omega arith in
    let cuts = subst (λ (n : ℕ). Cuts line 0 cut.tokens n) whole cut.cuts in
    let own : AreTokens line cut.tokens = record { utf8 = are.utf8; last = length line; cuts = cuts; blanks = rw past refl } in
    let same : ts ≡ cut.tokens = one_cutting line ts cut.tokens are own in
    let says : signs (lexemes line ts) ≡ spelled (minimal 0 x) = ap (λ (us : List Token). signs (lexemes line us)) same ∙ cut.says in
    subst (λ (us : List Sign). Spells us x) (sym says) (minimal_spells x)

-- ---- leaves

word_long : (w : List ℕ) → is_word w ≡ true → 0 < length w
word_long [] h = absurd cc
word_long (b ∷ w) h = omega arith

-- a name is no text that isn't one
differs : (n text : List ℕ) → is_name n ≡ true → is_name text ≡ false → bytes_eq n text ≡ false
differs n text h other = elim (cases_Bool (bytes_eq n text)) [
  | inl e ↦ let same : n ≡ text = (bytes_eq-Decides n text).0 e in let bad = rw same at h in absurd cc
  | inr e ↦ e
]

-- how an operator is written is no name
no_name : (o : BinOp) → is_name (row o).text ≡ false
unfolding is_name is_reserved
no_name op.Or = refl
no_name _ = refl

none_named : (os : List BinOp) (n : List ℕ) → is_name n ≡ true → found (texts os) n ≡ None
none_named [] n h = refl
none_named (o ∷ os) n h = rw (differs n (row o).text h (no_name o)) (none_named os n h)

-- nor is another word of the grammar
no_form : (is_name (codes "not") ≡ false) × (is_name (codes "if") ≡ false) × (is_name (codes "then") ≡ false) × (is_name (codes "else") ≡ false)
unfolding is_name is_reserved
no_form = (refl, refl, refl, refl)

no_part : (is_name (codes "untrack") ≡ false) × (is_name (codes "count") ≡ false) × (is_name (codes "sum") ≡ false) × (is_name (codes "keep") ≡ false)
unfolding is_name is_reserved
no_part = (refl, refl, refl, refl)

no_leaf : (is_name (codes "it") ≡ false) × (is_name (codes "true") ≡ false) × (is_name (codes "false") ≡ false)
unfolding is_name is_reserved
no_leaf = (refl, refl, refl)

later_says : (n : List ℕ) → is_name n ≡ true → later_word_sign n ≡ t.leaf (name n)
unfolding later_word_sign last_word_sign
later_says n h =
    let p1 = differs n (codes "not") h no_form.0 in
    let p2 = differs n (codes "if") h no_form.1 in
    let p3 = differs n (codes "then") h no_form.2 in
    let p4 = differs n (codes "else") h no_form.3 in
    let p5 = differs n (codes "untrack") h no_part.0 in
    let p6 = differs n (codes "count") h no_part.1 in
    let p7 = differs n (codes "sum") h no_part.2 in
    let p8 = differs n (codes "keep") h no_part.3 in
    let p9 = differs n (codes "it") h no_leaf.0 in
    let p10 = differs n (codes "true") h no_leaf.1 in
    let p11 = differs n (codes "false") h no_leaf.2 in
    rw (p1, p2, p3, p4, p5, p6, p7, p8, p9, p10, p11, h) refl

-- a name stands for itself
name_says : (n : List ℕ) → is_name n ≡ true → word_sign n ≡ t.leaf (name n)
unfolding word_sign
name_says n h = ap (λ (o : Option BinOp). operator_or o (later_word_sign n)) (none_named operators n h) ∙ later_says n h

-- a name is a key word that says it
pub name_key : (n : List ℕ) → is_name n ≡ true → IsKey n (t.leaf (name n))
unfolding is_name
name_key n h =
    let front = and_parts (is_word n && nat_le (length n) MOST_NAME) (not (is_reserved n)) h in
    let word = (and_parts (is_word n) (nat_le (length n) MOST_NAME) front.0).0 in
    record { word = word; some = word_long n word; says = name_says n h }

-- a name is a word that says it
pub name_token : (n : List ℕ) → is_name n ≡ true → IsOneToken (name n)
name_token n h =
    let k = name_key n h in
    record { kind_is = kind.Word; plain = tt; form = k.word; some = k.some; says = k.says }

pub truth_token : (b : Bool) → IsOneToken (constant (scalar.Bool b))
unfolding word_sign later_word_sign last_word_sign
truth_token true = record { kind_is = kind.Word; plain = tt; form = refl; some = omega arith; says = refl }
truth_token false = record { kind_is = kind.Word; plain = tt; form = refl; some = omega arith; says = refl }

pub number_token : (z : ℤ) → FitsSigned w64 z → IsOneToken (constant (scalar.Int z))
number_token z fits =
    let n = numeric z fits in
    let is = n.is in
    record { kind_is = kind.Number z; plain = tt; form = (fits, refl); some = omega (arith, ap length is); says = refl }
