-- What tokens are in a formula.
use Rattle.std.specs.Prelude.{ℕ, true, false, List, [], ◌∷◌, map, codes, Option, Some, None, if◌then◌else◌}
use Rattle.std.specs.Str.{bytes_eq}
use Rattle.sig_base.specs.Words.{is_name}
use Rattle.sig_base.specs.declared.scalar.Scalar.{Scalar}
use Rattle.sig_base.specs.declared.scalar.Scalar.TheVariants as scalar
use Rattle.sig_formula.specs.declared.formula.BinOp.{BinOp}
use Rattle.formula_text.specs.declared.rough.Around.{Around}
use Rattle.formula_text.specs.declared.rough.OverRows.{OverRows}
use Rattle.formula_text.specs.declared.rough.Around.TheVariants as form
use Rattle.formula_text.specs.declared.rough.OverRows.TheVariants as each
use Rattle.formula_text.specs.Operators.{operator_of}
use Rattle.sig_words.specs.Lexemes.{Lexeme, word, tag, number, literal, symbol}

-- what stands for itself; a text may be of any length
pub data Leaf : Type 0 where
  name : List ℕ → Leaf
  constant : Scalar → Leaf

-- what a token is in a formula
pub data Sign : Type 0 where
  leaf : Leaf → Sign
  operator : BinOp → Sign
  not_word : Sign
  if_word : Sign
  then_word : Sign
  else_word : Sign
  around : Around → Sign
  over_rows : OverRows → Sign
  it_word : Sign
  opening : Sign
  closing : Sign
  comma : Sign
  dot : Sign
  -- what stands in no formula
  other : Sign

-- an operator, or else that
abbrev pub operator_or : Option BinOp → Sign → Sign
operator_or (Some o) s = operator o
operator_or None s = s

-- what the last words are
unfoldable pub last_word_sign : List ℕ → Sign
last_word_sign w =
    if bytes_eq w (codes "it") then it_word
    else if bytes_eq w (codes "true") then leaf (constant (scalar.Bool true))
    else if bytes_eq w (codes "false") then leaf (constant (scalar.Bool false))
    else if is_name w then leaf (name w)
    else other

-- what a word is that stands before a part in parentheses, or one of the last words
abbrev pub form_sign : List ℕ → Sign
form_sign w =
    if bytes_eq w (codes "untrack") then around form.Untrack
    else if bytes_eq w (codes "count") then around form.Count
    else if bytes_eq w (codes "sum") then over_rows each.Sum
    else if bytes_eq w (codes "keep") then over_rows each.Keep
    else last_word_sign w

-- what a word is that is no operator
unfoldable pub later_word_sign : List ℕ → Sign
later_word_sign w =
    if bytes_eq w (codes "not") then not_word
    else if bytes_eq w (codes "if") then if_word
    else if bytes_eq w (codes "then") then then_word
    else if bytes_eq w (codes "else") then else_word
    else form_sign w

-- what a word is
unfoldable pub word_sign : List ℕ → Sign
word_sign w = operator_or (operator_of w) (later_word_sign w)

-- what a symbol is that is no operator
unfoldable pub later_symbol_sign : List ℕ → Sign
later_symbol_sign s =
    if bytes_eq s (codes "(") then opening
    else if bytes_eq s (codes ")") then closing
    else if bytes_eq s (codes ",") then comma
    else if bytes_eq s (codes ".") then dot
    else other

-- what a symbol is
unfoldable pub symbol_sign : List ℕ → Sign
symbol_sign s = operator_or (operator_of s) (later_symbol_sign s)

-- what is said by a token is in a formula
abbrev pub sign : Lexeme → Sign
sign (word w) = word_sign w
sign (tag n) = other
sign (number z) = leaf (constant (scalar.Int z))
sign (literal t) = leaf (constant (scalar.Text t))
sign (symbol s) = symbol_sign s

-- the same of each token
abbrev pub signs : List Lexeme → List Sign
signs ls = map sign ls

-- no operator stands first
abbrev pub NoOperator : List Sign → Type 0
NoOperator [] = Unit {0}
NoOperator (operator o ∷ ss) = ⊥
NoOperator (s ∷ ss) = Unit {0}
