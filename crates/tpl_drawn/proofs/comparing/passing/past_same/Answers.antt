use Rattle.std.proofs.Common.{ap, ◌∙◌}
use Rattle.std.specs.Box.{box_value}
use Rattle.sig_formula.specs.Trees.{tree}
use Rattle.tpl_blocks.specs.Blocks.{block}
use Rattle.tpl_model.specs.KeptLines.Changes.{changed}
use Rattle.tpl_model.specs.KeptLines.Kept.{heard_of, kept}
use Rattle.tpl_model.proofs.ChangeEquations.{changed_same}
use Rattle.tpl_model.proofs.MemoEquations.{kept_line}
use Rattle.tpl_drawn.proofs.Compares.Passing.{passes_all}
use Rattle.tpl_drawn.proofs.comparing.passing.past_same.Goals as goal

pub returns : goal.returns
returns c = λ known k.
    rw c.deref-3.ensures
    (passes_all c.args.listed (block c.args.lines.now) (block (box_value c.in-Text.rest)) (block c.in-Some.first.now) (kept c.args.memo.now)
    (kept (box_value c.in-Line.behind)) (kept c.in-Some.left.now) c.in-Text.field-0 c.in-Same.more (tree c.in-Text.field-1) (heard_of c.in-Line.field-0)
    (changed c.args.change.now) (changed (box_value c.in-Same.later)) c.if-listed.false (ap block c.in-Text.is)
    (ap kept c.in-Line.is ∙ kept_line c.in-Line.field-0 c.in-Line.behind) (ap changed c.in-Same.is ∙ changed_same c.in-Same.more c.in-Same.later)
    (rw (c.deref.ensures, c.deref-2.ensures) at c.in-Some.ensures) known k)
