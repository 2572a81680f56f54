-- The canonical text of a formula within a line.
use Rattle.std.specs.Prelude.{◌≡◌, ℕ, ◌+◌, ◌-◌, ◌≤◌, true, false, List, ◌++◌, length, take, drop, slice_index}
use Rattle.std.specs.Int.{w64}
use Rattle.std.specs.Int.RustNames.{FitsSigned}
use Rattle.std.specs.List.{list_all}
use Rattle.std.specs.Str.{IsUtf8}
use Rattle.sig_base.specs.Words.{is_blank, in_word, is_name}
use Rattle.sig_base.specs.declared.scalar.Scalar.TheVariants as scalar
use Rattle.sig_words.specs.declared.token.Token.{Token}
use Rattle.sig_words.specs.Lexemes.{lexemes}
use Rattle.sig_words.specs.Tokens.{AreTokens, Cuts, may_sign}
use Rattle.formula_text.specs.declared.wired.Allow.{Allow}
use Rattle.formula_text.specs.Signs.{Leaf, name, constant, signs, NoOperator}
use Rattle.formula_text.specs.Grammar.{Draft, leaf, negation, binary, choice, of_row, one_part, each_row}
use Rattle.formula_text.specs.Canonical.{canonical_text, unslotted}
use Rattle.formula_text.specs.Slots.{Wiring, IsWired}

-- a name is one, a number has 64 bits, and a text is UTF-8
abbrev pub IsPrintableLeaf : Leaf → Type 0
IsPrintableLeaf (name n) = is_name n ≡ true
IsPrintableLeaf (constant (scalar.Bool b)) = Unit {0}
IsPrintableLeaf (constant (scalar.Int z)) = FitsSigned w64 z
IsPrintableLeaf (constant (scalar.Text t)) = IsUtf8 t

-- each leaf of the formula is so, and what stands behind `it.` is a name
abbrev pub IsPrintable : Draft → Type 0
IsPrintable (leaf l) = IsPrintableLeaf l
IsPrintable (negation x) = IsPrintable x
IsPrintable (binary o x y) = IsPrintable x × IsPrintable y
IsPrintable (choice w x y) = IsPrintable w × IsPrintable x × IsPrintable y
IsPrintable (of_row n) = is_name n ≡ true
IsPrintable (one_part f x) = IsPrintable x
IsPrintable (each_row f x y) = IsPrintable x × IsPrintable y

-- the canonical text of a wired formula
abbrev pub text_of_wiring : Wiring → List ℕ
text_of_wiring w = canonical_text (unslotted w.1 w.0)

-- The text stands in the line from a place on, behind tokens and before others; a `-` may be a sign there, and what follows
-- neither lengthens a word nor is an operator.
pub record StandsAmong (line text : List ℕ) (from : ℕ) (front others : List Token) : Type 0 where
  pub utf8 : IsUtf8 line
  pub back : List ℕ
  pub text_is : drop from line ≡ text ++ back
  pub sign : may_sign line from ≡ true
  pub ends : in_word (slice_index back 0) ≡ false
  pub last : ℕ
  pub cuts : Cuts line 0 front last
  pub after : last ≤ from
  pub blanks : list_all is_blank (take (from - last) (drop last line)) ≡ true
  pub end : ℕ
  pub other_cuts : Cuts line (from + length text) others end
  pub other_blanks : list_all is_blank (drop end line) ≡ true
  pub stops : NoOperator (signs (lexemes line others))

-- between those tokens are the ones of the text, which are read as this
pub record ReadsAmong (line : List ℕ) (front others : List Token) (allow : Allow) (w : Wiring) : Type 0 where
  pub own : List Token
  pub are : AreTokens line (front ++ (own ++ others))
  pub wired : IsWired line (front ++ (own ++ others)) (length front) (length front + length own) allow w

-- the text has tokens, which are read whole as this
pub record ReadsWhole (text : List ℕ) (allow : Allow) (w : Wiring) : Type 0 where
  pub own : List Token
  pub are : AreTokens text own
  pub wired : IsWired text own 0 (length own) allow w
