-- Formulas, apart from where they lie in memory.
use Rattle.std.specs.Prelude.{ℕ, Bool, true, false, List, ◌==◌, ◌||◌}
use Rattle.sig_base.specs.declared.scalar.Scalar.{Scalar}
use Rattle.sig_formula.specs.declared.formula.BinOp.{BinOp}
use Rattle.sig_formula.specs.declared.formula.Formula.{Formula}
use Rattle.sig_formula.specs.declared.formula.Formula.TheVariants as f

-- a formula as a tree
pub data Tree : Type 0 where
  literal : Scalar → Tree
  slot : ℕ → Tree
  row_field : List ℕ → Tree
  row_key : Tree
  negation : Tree → Tree
  binary : BinOp → Tree → Tree → Tree
  choice : Tree → Tree → Tree → Tree
  count_of : Tree → Tree
  sum_of : Tree → Tree → Tree
  rows_where : Tree → Tree → Tree
  untracked : Tree → Tree

-- the tree of a formula
abbrev pub tree : Formula → Tree
tree (f.Lit s) = literal s
tree (f.Slot n) = slot n
tree (f.It n) = row_field n
tree f.ItKey = row_key
tree (f.Not' p a) = negation (tree a)
tree (f.Bin' o p a q b) = binary o (tree a) (tree b)
tree (f.If' p t q a r b) = choice (tree t) (tree a) (tree b)
tree (f.Count' p a) = count_of (tree a)
tree (f.Sum' p a q b) = sum_of (tree a) (tree b)
tree (f.Keep' p a q b) = rows_where (tree a) (tree b)
tree (f.Untrack' p a) = untracked (tree a)

-- whether the formula has the slot
abbrev pub has_slot : ℕ → Tree → Bool
has_slot n (literal s) = false
has_slot n (slot m) = m == n
has_slot n (row_field g) = false
has_slot n row_key = false
has_slot n (negation a) = has_slot n a
has_slot n (binary o a b) = has_slot n a || has_slot n b
has_slot n (choice t a b) = has_slot n t || (has_slot n a || has_slot n b)
has_slot n (count_of a) = has_slot n a
has_slot n (sum_of a b) = has_slot n a || has_slot n b
has_slot n (rows_where a b) = has_slot n a || has_slot n b
has_slot n (untracked a) = has_slot n a

-- whether the formula speaks of a row that it is given: whether it has `it` outside the second parts of `sum` and `keep`
abbrev pub needs_row : Tree → Bool
needs_row (literal s) = false
needs_row (slot n) = false
needs_row (row_field g) = true
needs_row row_key = true
needs_row (negation a) = needs_row a
needs_row (binary o a b) = needs_row a || needs_row b
needs_row (choice t a b) = needs_row t || (needs_row a || needs_row b)
needs_row (count_of a) = needs_row a
needs_row (sum_of a b) = needs_row a
needs_row (rows_where a b) = needs_row a
needs_row (untracked a) = needs_row a
