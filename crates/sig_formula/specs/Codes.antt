-- How a tree is stored where a value holds one: by its parts, each behind its own parts.
use Rattle.std.specs.Prelude.{◌≡◌, ◌⊎◌, ℕ, zero, suc, List, [], ◌∷◌, refl}
use Rattle.std.specs.Coded.{Coded, code_by, coded_list, coded_ℕ, coded⊎}
use Rattle.std.proofs.Common.{◌∙◌, ap, inl, inr}
use Rattle.sig_base.specs.declared.scalar.Scalar.{Scalar}
use Rattle.sig_base.specs.contracts.scalar.Scalar as scalar_code
use Rattle.sig_formula.specs.declared.formula.BinOp.{BinOp}
use Rattle.sig_formula.specs.contracts.formula.BinOp as op_code
use Rattle.sig_formula.specs.Trees.{Tree, literal, slot, row_field, row_key, negation, binary, choice, count_of, sum_of, rows_where, untracked}

-- a literal, a slot, an operator, a field of a row, or the number of one of the others
abbrev Part : Type 0
Part = Scalar ⊎ (ℕ ⊎ (BinOp ⊎ (List ℕ ⊎ ℕ)))

-- one of the others, by its number
abbrev other : ℕ → Part
other n = inr (inr (inr (inr n)))

-- the parts of a tree, and those behind it
abbrev parts_of : Tree → List Part → List Part
parts_of (literal s) rest = inl s ∷ rest
parts_of (slot n) rest = inr (inl n) ∷ rest
parts_of (row_field g) rest = inr (inr (inr (inl g))) ∷ rest
parts_of row_key rest = other 3 ∷ rest
parts_of (negation a) rest = parts_of a (other 0 ∷ rest)
parts_of (binary o a b) rest = parts_of a (parts_of b (inr (inr (inl o)) ∷ rest))
parts_of (choice t a b) rest = parts_of t (parts_of a (parts_of b (other 1 ∷ rest)))
parts_of (count_of a) rest = parts_of a (other 4 ∷ rest)
parts_of (sum_of a b) rest = parts_of a (parts_of b (other 5 ∷ rest))
parts_of (rows_where a b) rest = parts_of a (parts_of b (other 6 ∷ rest))
parts_of (untracked a) rest = parts_of a (other 2 ∷ rest)

-- the trees of a stack, once one of the others is put on
abbrev with_other : ℕ → List Tree → List Tree
with_other zero (a ∷ stack) = negation a ∷ stack
with_other (suc zero) (b ∷ a ∷ t ∷ stack) = choice t a b ∷ stack
with_other (suc (suc zero)) (a ∷ stack) = untracked a ∷ stack
with_other (suc (suc (suc zero))) stack = row_key ∷ stack
with_other (suc (suc (suc (suc zero)))) (a ∷ stack) = count_of a ∷ stack
with_other (suc (suc (suc (suc (suc zero))))) (b ∷ a ∷ stack) = sum_of a b ∷ stack
with_other _ (b ∷ a ∷ stack) = rows_where a b ∷ stack
with_other _ stack = stack

-- the trees of a stack, once an operator is put on
abbrev with_operator : BinOp → List Tree → List Tree
with_operator o (b ∷ a ∷ stack) = binary o a b ∷ stack
with_operator o stack = stack

-- the trees of a stack, once a part is put on
abbrev with_part : Part → List Tree → List Tree
with_part (inl s) stack = literal s ∷ stack
with_part (inr (inl n)) stack = slot n ∷ stack
with_part (inr (inr (inl o))) stack = with_operator o stack
with_part (inr (inr (inr (inl g)))) stack = row_field g ∷ stack
with_part (inr (inr (inr (inr n)))) stack = with_other n stack

-- the trees of a stack, once all parts are put on
abbrev stack_of : List Part → List Tree → List Tree
stack_of [] stack = stack
stack_of (p ∷ ps) stack = stack_of ps (with_part p stack)

-- the tree on top
abbrev first_of : List Tree → Tree
first_of [] = slot 0
first_of (t ∷ ts) = t

-- the parts of a tree put it on the stack
pub stack_of-parts_of : (t : Tree) (rest : List Part) (stack : List Tree) → stack_of (parts_of t rest) stack ≡ stack_of rest (t ∷ stack)
stack_of-parts_of (literal s) rest stack = refl
stack_of-parts_of (slot n) rest stack = refl
stack_of-parts_of (row_field g) rest stack = refl
stack_of-parts_of row_key rest stack = refl
stack_of-parts_of (negation a) rest stack = stack_of-parts_of a (other 0 ∷ rest) stack
stack_of-parts_of (binary o a b) rest stack =
    stack_of-parts_of a (parts_of b (inr (inr (inl o)) ∷ rest)) stack ∙ stack_of-parts_of b (inr (inr (inl o)) ∷ rest) (a ∷ stack)
stack_of-parts_of (choice t a b) rest stack =
    stack_of-parts_of t (parts_of a (parts_of b (other 1 ∷ rest))) stack
    ∙ (stack_of-parts_of a (parts_of b (other 1 ∷ rest)) (t ∷ stack) ∙ stack_of-parts_of b (other 1 ∷ rest) (a ∷ t ∷ stack))
stack_of-parts_of (count_of a) rest stack = stack_of-parts_of a (other 4 ∷ rest) stack
stack_of-parts_of (sum_of a b) rest stack =
    stack_of-parts_of a (parts_of b (other 5 ∷ rest)) stack ∙ stack_of-parts_of b (other 5 ∷ rest) (a ∷ stack)
stack_of-parts_of (rows_where a b) rest stack =
    stack_of-parts_of a (parts_of b (other 6 ∷ rest)) stack ∙ stack_of-parts_of b (other 6 ∷ rest) (a ∷ stack)
stack_of-parts_of (untracked a) rest stack = stack_of-parts_of a (other 2 ∷ rest) stack

-- a tree is stored as its parts
abbrev pub tree_code : Coded Tree
tree_code =
    code_by (List Part) (coded_list (coded⊎ scalar_code.the_row.coded
    (coded⊎ coded_ℕ (coded⊎ op_code.the_row.coded (coded⊎ (coded_list coded_ℕ) coded_ℕ)))))
    (λ t. parts_of t []) (λ ps. first_of (stack_of ps [])) (λ t. ap first_of (stack_of-parts_of t [] []))
