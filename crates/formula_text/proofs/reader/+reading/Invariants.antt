use Rattle.std.proofs.Common.{ℕ, ◌<◌, ◌+◌, ◌*◌, length}
use Rattle.formula_text.specs.Rough.{draft, IsPartFrom, signs_from}
use Rattle.formula_text.proofs.Complete.{Leads}
use Rattle.formula_text.proofs.reader.+reading.Given as goal

abbrev pub decreases-choice : goal.decreases-choice
decreases-choice l = 3 * length (signs_from l.line.now l.tokens.now l.at) + 3

abbrev pub decreases-expr : goal.decreases-expr
decreases-expr l = 3 * length (signs_from l.line.now l.tokens.now l.at) + 2

abbrev pub decreases-head : goal.decreases-head
decreases-head l = 3 * length (signs_from l.line.now l.tokens.now l.at) + 1

abbrev pub invariant-expr-loop-sign : goal.invariant-expr-loop-sign
invariant-expr-loop-sign l = record {
  part : IsPartFrom l.line l.tokens l.at (l.left.value, l.own, l.rest);
  leads : (n : ℕ) → length (signs_from l.line l.tokens l.at) < n → Leads n l.least (signs_from l.line l.tokens l.at) (draft l.line l.tokens l.left.value, l.own, signs_from l.line l.tokens l.rest);
}

abbrev pub decreases-expr-loop-sign : goal.decreases-expr-loop-sign
decreases-expr-loop-sign l = length (signs_from l.line l.tokens l.rest)

abbrev pub decreases-each_row : goal.decreases-each_row
decreases-each_row l = 3 * length (signs_from l.line.now l.tokens.now l.at) + 3

abbrev pub decreases-one_part : goal.decreases-one_part
decreases-one_part l = 3 * length (signs_from l.line.now l.tokens.now l.at) + 3
