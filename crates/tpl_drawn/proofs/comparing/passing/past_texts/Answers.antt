use Rattle.std.proofs.Common.{◌≡◌, ◌-◌, ◌+◌, false, arith, ap, ◌∙◌}
use Rattle.std.specs.Box.{box_value}
use Rattle.sig_formula.specs.Trees.{tree}
use Rattle.tpl_blocks.specs.Blocks.{block}
use Rattle.tpl_model.specs.KeptLines.Changes.{same_before}
use Rattle.tpl_model.specs.KeptLines.Kept.{heard_of, kept}
use Rattle.tpl_model.proofs.ChangeEquations.{none_before}
use Rattle.tpl_model.proofs.MemoEquations.{kept_line}
use Rattle.tpl_drawn.specs.Walks.{as_listed, of_lines}
use Rattle.tpl_drawn.proofs.Compares.Passing.{passes_one}
use Rattle.tpl_drawn.proofs.comparing.passing.past_texts.Goals as goal

pub loop-passed-init : goal.loop-passed-init
loop-passed-init c = λ known k d.
    ap (λ z. as_listed false (of_lines known k (block c.args.lines.now) (kept c.args.memo.now) (same_before z d))) (omega arith)

pub loop-passed-preserved : goal.loop-passed-preserved
loop-passed-preserved c =
    let test = c.loop-passed-test.true in
    rw (c.deref-behind.ensures, c.deref-left.ensures)
    (passes_one (block c.args.lines.now) (kept c.args.memo.now) c.args.count (block c.loop-passed.behind.now) (kept c.loop-passed.left.now) (c.args.count - c.loop-passed._passed)
    (c.args.count - (c.loop-passed._passed + 1)) (block (box_value c.in-Text.rest)) (kept (box_value c.in-Line.later)) c.in-Text.field-0 (tree c.in-Text.field-1)
    (heard_of c.in-Line.field-0) (ap block c.in-Text.is) (ap kept c.in-Line.is ∙ kept_line c.in-Line.field-0 c.in-Line.later) (omega (arith, test))
    c.loop-passed.invariant)

pub returns : goal.returns
returns c = λ known k d.
    let all : c.args.count - c.loop-passed._passed ≡ 0 = omega arith in
    c.loop-passed.invariant known k d
    ∙ ap (λ z. as_listed false (of_lines known k (block c.loop-passed.behind.now) (kept c.loop-passed.left.now) z)) (ap (λ z. same_before z d) all ∙ none_before d)
