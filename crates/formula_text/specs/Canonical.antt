-- Formulas with the fewest parentheses, and how they are written.
use Rattle.std.specs.Prelude.{ℕ, ◌+◌, nat_lt, if◌then◌else◌, Bool, List, [], ◌++◌, codes, unwrap_or, slice_get}
use Rattle.sig_base.specs.Printer.{printed_scalar}
use Rattle.sig_formula.specs.declared.formula.BinOp.{BinOp}
use Rattle.sig_formula.specs.Trees.{Tree}
use Rattle.sig_formula.specs.Trees as tree
use Rattle.formula_text.specs.Operators.{row}
use Rattle.formula_text.specs.Signs.{Leaf, name, constant}
use Rattle.formula_text.specs.declared.rough.Around.{Around}
use Rattle.formula_text.specs.declared.rough.OverRows.{OverRows}
use Rattle.formula_text.specs.declared.rough.Around.TheVariants as form
use Rattle.formula_text.specs.declared.rough.OverRows.TheVariants as each
use Rattle.formula_text.specs.Grammar.{Draft, leaf, negation, binary, choice, of_row, one_part, each_row, level, before}
use Rattle.formula_text.specs.Grammar.{Written, single, group, it_dot, around, over_rows, negated, chain, pick}

-- parentheses where a part's rule stands earlier in the grammar than its place asks for
abbrev pub grouped : ℕ → ℕ → Written → Written
grouped own asked w = if nat_lt own asked then group w else w

-- the formula as it is written at a place that asks for a rule
abbrev pub minimal : ℕ → Draft → Written
minimal asked (leaf l) = single l
minimal asked (negation x) = grouped 3 asked (negated (minimal 3 x))
minimal asked (binary o x y) = grouped (level o) asked (chain o (minimal (before o) x) (minimal (level o + 1) y))
minimal asked (choice w x y) = grouped 0 asked (pick (minimal 0 w) (minimal 0 x) (minimal 0 y))
minimal asked (of_row n) = it_dot n
minimal asked (one_part f x) = around f (minimal 0 x)
minimal asked (each_row f x y) = over_rows f (minimal 0 x) (minimal 0 y)

-- how an operator is written
abbrev pub operator_text : BinOp → List ℕ
operator_text o = (row o).text

-- how what stands before one part is written
abbrev pub around_text : Around → List ℕ
around_text form.Count = codes "count"
around_text form.Untrack = codes "untrack"

-- how what stands before rows is written
abbrev pub over_text : OverRows → List ℕ
over_text each.Sum = codes "sum"
over_text each.Keep = codes "keep"

-- how a leaf is written
abbrev pub leaf_text : Leaf → List ℕ
leaf_text (name n) = n
leaf_text (constant s) = printed_scalar s

-- the text: one space on each side of an operator and behind `not`, `if`, `then`, `else` and a comma, and none inside parentheses
abbrev pub written : Written → List ℕ
written (single l) = leaf_text l
written (group w) = codes "(" ++ (written w ++ codes ")")
written (it_dot n) = codes "it." ++ n
written (around f w) = around_text f ++ (codes "(" ++ (written w ++ codes ")"))
written (over_rows f a b) = over_text f ++ (codes "(" ++ ((written a ++ (codes ", " ++ written b)) ++ codes ")"))
written (negated w) = codes "not " ++ written w
written (chain o a b) = written a ++ (codes " " ++ (operator_text o ++ (codes " " ++ written b)))
written (pick w a b) = codes "if " ++ (written w ++ (codes " then " ++ (written a ++ (codes " else " ++ written b))))

-- the canonical text
abbrev pub canonical_text : Draft → List ℕ
canonical_text x = written (minimal 0 x)

-- the name of a slot
abbrev pub named : List (List ℕ) → ℕ → List ℕ
named ns n = unwrap_or (slice_get ns n) []

-- the formula with names in place of its slots
abbrev pub unslotted : List (List ℕ) → Tree → Draft
unslotted ns (tree.literal s) = leaf (constant s)
unslotted ns (tree.slot n) = leaf (name (named ns n))
unslotted ns (tree.negation x) = negation (unslotted ns x)
unslotted ns (tree.binary o x y) = binary o (unslotted ns x) (unslotted ns y)
unslotted ns (tree.choice w x y) = choice (unslotted ns w) (unslotted ns x) (unslotted ns y)
unslotted ns (tree.row_field n) = of_row n
unslotted ns tree.row_key = of_row (codes "key")
unslotted ns (tree.count_of x) = one_part form.Count (unslotted ns x)
unslotted ns (tree.untracked x) = one_part form.Untrack (unslotted ns x)
unslotted ns (tree.sum_of x y) = each_row each.Sum (unslotted ns x) (unslotted ns y)
unslotted ns (tree.rows_where x y) = each_row each.Keep (unslotted ns x) (unslotted ns y)

-- the parenthesis before a group, where there is one
abbrev pub opened : Bool → List ℕ
opened b = if b then codes "(" else []

-- the parenthesis behind it
abbrev pub shut : Bool → List ℕ
shut b = if b then codes ")" else []
