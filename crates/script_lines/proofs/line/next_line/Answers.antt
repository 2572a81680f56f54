use Rattle.std.proofs.Common.{arith, ℕ, List, ◌+◌, ◌∷◌, drop, length, sym, ap, ◌∙◌}
use Rattle.std.proofs.lemmas.Bool.{eqb-true, eqb-false}
use Rattle.std.proofs.lemmas.List.{nil_from_length}
use Rattle.script_lines.specs.Lines.{lines}
use Rattle.script_lines.proofs.Reader.{lines_nil, line_at, last_at}
use Rattle.script_lines.proofs.line.next_line.Goals as goal

pub returns-then-is_empty-clause-line : goal.returns-then-is_empty-clause-line
returns-then-is_empty-clause-line c =
    let rest = c.split_at.result.1.now in
    ap lines (sym c.split_at.ensures.back ∙ nil_from_length rest (eqb-true (length rest) 0 (sym c.if-is_empty.ensures))) ∙ lines_nil

pub returns-in-Some-clause-line : goal.returns-in-Some-clause-line
returns-in-Some-clause-line c =
    line_at c.args.script.now c.split_at.result.1.now c.args.at c.in-Some.end c.split_at.ensures.back c.in-Some.ensures
    ∙ ap (λ (l : List ℕ). l ∷ lines (drop (c.args.at + c.in-Some.end + 1) c.args.script.now)) (sym c.without_return.ensures)

pub returns-in-None-clause-line : goal.returns-in-None-clause-line
returns-in-None-clause-line c =
    let rest = c.split_at.result.1.now in
    let some = eqb-false (length rest) 0 (sym c.if-is_empty.ensures) in
    last_at c.args.script.now rest c.args.at c.split_at.ensures.back c.in-None.ensures (omega arith)
