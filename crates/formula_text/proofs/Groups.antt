-- The rules of operators, by groups.
use Rattle.std.proofs.Common.{◌+◌, ◌<◌, ◌≤◌, arith}
use Rattle.sig_formula.specs.declared.formula.BinOp.{BinOp}
use Rattle.formula_text.specs.declared.operators.Group.{Group}
use Rattle.formula_text.specs.declared.operators.Group.TheVariants as groups
use Rattle.formula_text.specs.Operators.{row}
use Rattle.formula_text.specs.Grammar.{before, left, level, rank}

-- where the rules of a group stand among the others
record Ranks (g : Group) : Type 0 where
  some : 0 < rank g
  small : rank g + 1 ≤ 8
  left_small : left g ≤ 8
  left_rank : rank g ≤ left g

ranks : (g : Group) → Ranks g
ranks groups.Or = record { some = omega arith; small = omega arith; left_small = omega arith; left_rank = omega arith }
ranks _ = record { some = omega arith; small = omega arith; left_small = omega arith; left_rank = omega arith }

-- none has the rule of `not`
rank_not : (g : Group) → rank g < 4 → rank g < 3
rank_not groups.Or h = omega arith
rank_not groups.And h = omega arith
rank_not _ h = absurd (omega arith)

pub level_some : (o : BinOp) → 0 < level o
level_some o = (ranks (row o).group).some

pub level_small : (o : BinOp) → level o + 1 ≤ 8
level_small o = (ranks (row o).group).small

pub before_small : (o : BinOp) → before o ≤ 8
before_small o = (ranks (row o).group).left_small

pub level_before : (o : BinOp) → level o ≤ before o
level_before o = (ranks (row o).group).left_rank

-- an operator that does not bind tighter than `not` binds looser
pub level_not : (o : BinOp) → level o < 4 → level o < 3
level_not o h = rank_not (row o).group h
