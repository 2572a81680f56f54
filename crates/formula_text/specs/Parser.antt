-- One pass over the tokens, from left to right.
use Rattle.std.specs.Prelude.{ℕ, zero, suc, ◌+◌, nat_le, Bool, ◌&&◌, if◌then◌else◌, List, ◌∷◌, length, Option, Some, None, option_map, option_and_then}
use Rattle.sig_formula.specs.declared.formula.BinOp.{BinOp}
use Rattle.formula_text.specs.declared.rough.Around.{Around}
use Rattle.formula_text.specs.declared.rough.OverRows.{OverRows}
use Rattle.formula_text.specs.Signs.{Sign, name}
use Rattle.formula_text.specs.Signs as t
use Rattle.formula_text.specs.Grammar.{Draft, leaf, negation, binary, choice, of_row, one_part, each_row, level, before}

-- what was read: the formula, its rule, and the signs after it
abbrev pub Part : Type 0
Part = Draft × ℕ × List Sign

-- reads what is of a rule or a tighter one, from the signs that are left
abbrev pub Reader : Type 0
Reader = ℕ → List Sign → Option Part

-- a formula in parentheses, once the closing one stands there
abbrev pub closed_at : Draft → List Sign → Option Part
closed_at x (t.closing ∷ ts) = Some (x, 8, ts)
closed_at x _ = None

-- the same of a part
abbrev pub closed : Part → Option Part
closed p = closed_at p.0 p.2

-- the same of a part behind `count` or `untrack`
abbrev pub one_closed : Around → Part → Option Part
one_closed f p = closed_at (one_part f p.0) p.2

-- what follows `count` or `untrack`
abbrev pub one_part_at : Reader → Around → List Sign → Option Part
one_part_at read f (t.opening ∷ ts) = option_and_then (one_closed f) (read 0 ts)
one_part_at read f _ = None

-- the same of what is evaluated of each row, once the rows are read
abbrev pub each_closed : OverRows → Draft → Part → Option Part
each_closed f x p = closed_at (each_row f x p.0) p.2

-- what follows the rows
abbrev pub comma_at : Reader → OverRows → Draft → List Sign → Option Part
comma_at read f x (t.comma ∷ ts) = option_and_then (each_closed f x) (read 0 ts)
comma_at read f x _ = None

-- the same of a part
abbrev pub after_rows : Reader → OverRows → Part → Option Part
after_rows read f p = comma_at read f p.0 p.2

-- what follows `sum` or `keep`
abbrev pub each_row_at : Reader → OverRows → List Sign → Option Part
each_row_at read f (t.opening ∷ ts) = option_and_then (after_rows read f) (read 0 ts)
each_row_at read f _ = None

-- what follows `it.`
abbrev pub field_at : List Sign → Option Part
field_at (t.leaf (name n) ∷ ts) = Some (of_row n, 8, ts)
field_at _ = None

-- what follows `it`
abbrev pub row_part_at : List Sign → Option Part
row_part_at (t.dot ∷ ts) = field_at ts
row_part_at _ = None

-- the part with `not` before it
abbrev pub negate : Part → Option Part
negate p = Some (negation p.0, 3, p.2)

-- the choice, once its last branch is read
abbrev pub chosen : Draft → Draft → Part → Option Part
chosen x y p = Some (choice x y p.0, 0, p.2)

-- what follows the branch for truth
abbrev pub else_at : Reader → Draft → Draft → List Sign → Option Part
else_at read x y (t.else_word ∷ ts) = option_and_then (chosen x y) (read 0 ts)
else_at read x y _ = None

-- the same of a part
abbrev pub after_branch : Reader → Draft → Part → Option Part
after_branch read x p = else_at read x p.0 p.2

-- what follows the test
abbrev pub then_at : Reader → Draft → List Sign → Option Part
then_at read x (t.then_word ∷ ts) = option_and_then (after_branch read x) (read 0 ts)
then_at read x _ = None

-- the same of a part
abbrev pub after_test : Reader → Part → Option Part
after_test read p = then_at read p.0 p.2

-- what follows `if`
abbrev pub choice_at : Reader → List Sign → Option Part
choice_at read ts = option_and_then (after_test read) (read 0 ts)

-- what begins a formula
abbrev pub head : Reader → Reader
head read least (t.leaf l ∷ ts) = Some (leaf l, 8, ts)
head read least (t.opening ∷ ts) = option_and_then closed (read 0 ts)
head read least (t.around f ∷ ts) = one_part_at read f ts
head read least (t.over_rows f ∷ ts) = each_row_at read f ts
head read least (t.it_word ∷ ts) = row_part_at ts
head read least (t.not_word ∷ ts) = if nat_le least 3 then option_and_then negate (read 3 ts) else None
head read least (t.if_word ∷ ts) = if nat_le least 0 then choice_at read ts else None
head read least _ = None

-- whether an operator may stand behind a part of a rule, where another rule is asked for
abbrev pub goes_on : BinOp → ℕ → ℕ → Bool
goes_on o least so_far = nat_le least (level o) && nat_le (before o) so_far

-- the operator and its right side, or what there was before
abbrev pub extended : (Part → Part) → BinOp → Part → Option Part → Part
extended again o p None = p
extended again o p (Some q) = again (binary o p.0 q.0, level o, q.2)

-- the operators that follow, as long as each has its right side
abbrev pub tail_at : Reader → (Part → Part) → ℕ → Part → List Sign → Part
tail_at read again least p (t.operator o ∷ ts) = if goes_on o least p.1 then extended again o p (read (level o + 1) ts) else p
tail_at read again least p _ = p

-- as many operators as there may be turns
unfoldable pub tail : Reader → ℕ → ℕ → Part → Part
tail read zero least p = p
tail read (suc n) least p = tail_at read (tail read n least) least p p.2

-- The first number bounds the parts within parts. The count of the signs is always enough.
unfoldable pub expr : ℕ → Reader
expr zero least ts = None
expr (suc n) least ts = option_map (tail (expr n) (length ts) least) (head (expr n) least ts)
