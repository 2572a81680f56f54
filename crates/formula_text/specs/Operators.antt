-- The operators in texts: one table, from which come their signs, how they bind, and how they are written.
use Rattle.std.specs.Prelude.{ℕ, if◌then◌else◌, List, [], ◌∷◌, map, codes, Option, Some, None}
use Rattle.std.specs.Str.{bytes_eq}
use Rattle.sig_formula.specs.declared.formula.BinOp.{BinOp}
use Rattle.sig_formula.specs.declared.formula.BinOp.TheVariants as op
use Rattle.formula_text.specs.declared.operators.Group.{Group}
use Rattle.formula_text.specs.declared.operators.Group.TheVariants as groups

-- how an operator is written, and which others bind as it does
pub record Row : Type 0 where
  pub text : List ℕ
  pub group : Group

-- the row of an operator
abbrev pub row : BinOp → Row
row op.Or = record { text = codes "or"; group = groups.Or }
row op.And = record { text = codes "and"; group = groups.And }
row op.Eq = record { text = codes "=="; group = groups.Compare }
row op.Ne = record { text = codes "!="; group = groups.Compare }
row op.Lt = record { text = codes "<"; group = groups.Compare }
row op.Le = record { text = codes "<="; group = groups.Compare }
row op.Gt = record { text = codes ">"; group = groups.Compare }
row op.Ge = record { text = codes ">="; group = groups.Compare }
row op.Join = record { text = codes "++"; group = groups.Join }
row op.Add = record { text = codes "+"; group = groups.Add }
row op.Sub = record { text = codes "-"; group = groups.Add }
row op.Mul = record { text = codes "*"; group = groups.Multiply }
row op.Div = record { text = codes "/"; group = groups.Multiply }
row op.Rem = record { text = codes "%"; group = groups.Multiply }

-- all operators
abbrev pub operators : List BinOp
operators = op.Or ∷ op.And ∷ op.Eq ∷ op.Ne ∷ op.Lt ∷ op.Le ∷ op.Gt ∷ op.Ge ∷ op.Join ∷ op.Add ∷ op.Sub ∷ op.Mul ∷ op.Div ∷ op.Rem ∷ []

-- the operator that is written so, by how each of these is written
abbrev pub found : List (List ℕ × BinOp) → List ℕ → Option BinOp
found [] text = None
found (o ∷ os) text = if bytes_eq text o.0 then Some o.1 else found os text

-- how each of them is written
abbrev pub texts : List BinOp → List (List ℕ × BinOp)
texts os = map (λ (o : BinOp). ((row o).text, o)) os

-- the operator that is written so
abbrev pub operator_of : List ℕ → Option BinOp
operator_of text = found (texts operators) text
