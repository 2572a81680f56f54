-- Formulas as they are written.
use Rattle.std.specs.Prelude.{◌≡◌, ℕ, ◌<◌, ◌≤◌, List, [], ◌∷◌, ◌++◌, length, take}
use Rattle.sig_formula.specs.declared.formula.BinOp.{BinOp}
use Rattle.sig_words.specs.Lexemes.{Lexeme}
use Rattle.formula_text.specs.declared.rough.Around.{Around}
use Rattle.formula_text.specs.declared.rough.OverRows.{OverRows}
use Rattle.formula_text.specs.declared.operators.Group.{Group}
use Rattle.formula_text.specs.declared.operators.Group.TheVariants as groups
use Rattle.formula_text.specs.Operators.{row}
use Rattle.formula_text.specs.Signs.{Leaf, Sign, name, signs}
use Rattle.formula_text.specs.Signs as t

-- a formula with its names, and with texts of any length
pub data Draft : Type 0 where
  leaf : Leaf → Draft
  negation : Draft → Draft
  binary : BinOp → Draft → Draft → Draft
  choice : Draft → Draft → Draft → Draft
  -- the key of a row, where that is the name, or its field of this name
  of_row : List ℕ → Draft
  one_part : Around → Draft → Draft
  each_row : OverRows → Draft → Draft → Draft

-- a formula as it is written, with each pair of parentheses
pub data Written : Type 0 where
  single : Leaf → Written
  group : Written → Written
  it_dot : List ℕ → Written
  around : Around → Written → Written
  over_rows : OverRows → Written → Written → Written
  negated : Written → Written
  chain : BinOp → Written → Written → Written
  pick : Written → Written → Written → Written

-- its tokens
abbrev pub spelled : Written → List Sign
spelled (single l) = t.leaf l ∷ []
spelled (group w) = t.opening ∷ (spelled w ++ t.closing ∷ [])
spelled (it_dot n) = t.it_word ∷ t.dot ∷ t.leaf (name n) ∷ []
spelled (around f w) = t.around f ∷ t.opening ∷ (spelled w ++ t.closing ∷ [])
spelled (over_rows f a b) = t.over_rows f ∷ t.opening ∷ ((spelled a ++ (t.comma ∷ spelled b)) ++ t.closing ∷ [])
spelled (negated w) = t.not_word ∷ spelled w
spelled (chain o a b) = spelled a ++ (t.operator o ∷ spelled b)
spelled (pick w a b) = t.if_word ∷ (spelled w ++ (t.then_word ∷ (spelled a ++ (t.else_word ∷ spelled b))))

-- the formula that it stands for
abbrev pub meant : Written → Draft
meant (single l) = leaf l
meant (group w) = meant w
meant (it_dot n) = of_row n
meant (around f w) = one_part f (meant w)
meant (over_rows f a b) = each_row f (meant a) (meant b)
meant (negated w) = negation (meant w)
meant (chain o a b) = binary o (meant a) (meant b)
meant (pick w a b) = choice (meant w) (meant a) (meant b)

-- The rules of the grammar by number, from the loosest on: 0 if, 1 or, 2 and, 3 not, 4 comparisons, 5 `++`, 6 `+` and `-`,
-- 7 `*`, `/` and `%`, 8 a leaf, `it`, parentheses and what has its parts in them. This is the rule of operators that bind alike.
abbrev pub rank : Group → ℕ
rank groups.Or = 1
rank groups.And = 2
rank groups.Compare = 4
rank groups.Join = 5
rank groups.Add = 6
rank groups.Multiply = 7

-- the loosest rule of what stands before them: chains group to the left, and comparisons make no chain
abbrev pub left : Group → ℕ
left groups.Or = 1
left groups.And = 2
left groups.Compare = 5
left groups.Join = 5
left groups.Add = 6
left groups.Multiply = 7

-- the rule of an operator
abbrev pub level : BinOp → ℕ
level o = rank (row o).group

-- the loosest rule of what stands before it
abbrev pub before : BinOp → ℕ
before o = left (row o).group

-- the rule by which it is written
abbrev pub rule : Written → ℕ
rule (single l) = 8
rule (group w) = 8
rule (it_dot n) = 8
rule (around f w) = 8
rule (over_rows f a b) = 8
rule (negated w) = 3
rule (chain o a b) = level o
rule (pick w a b) = 0

-- each part is of a rule that may stand in its place
abbrev pub Fits : Written → Type 0
Fits (single l) = Unit {0}
Fits (group w) = Fits w
Fits (it_dot n) = Unit {0}
Fits (around f w) = Fits w
Fits (over_rows f a b) = Fits a × Fits b
Fits (negated w) = (3 ≤ rule w) × Fits w
Fits (chain o a b) = (before o ≤ rule a) × (level o < rule b) × Fits a × Fits b
Fits (pick w a b) = Fits w × Fits a × Fits b

-- the signs spell the formula
pub record Spells (ss : List Sign) (x : Draft) : Type 0 where
  pub form : Written
  pub fits : Fits form
  pub tokens : ss ≡ spelled form
  pub meaning : meant form ≡ x

-- the tokens spell the formula
abbrev pub IsFormula : List Lexeme → Draft → Type 0
IsFormula ls x = Spells (signs ls) x

-- the first n tokens spell the formula, and no more of them spell any
pub record IsLongest (ls : List Lexeme) (n : ℕ) (x : Draft) : Type 0 where
  pub within : n ≤ length ls
  pub spells : IsFormula (take n ls) x
  pub longest : (m : ℕ) (y : Draft) → m ≤ length ls → IsFormula (take m ls) y → m ≤ n

-- no tokens at the front spell a formula
abbrev pub HasNone : List Lexeme → Type 0
HasNone ls = (m : ℕ) (y : Draft) → IsFormula (take m ls) y → ⊥
