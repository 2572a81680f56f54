use Rattle.std.proofs.Common.{◌-◌, ap, sym, ◌∙◌, arith}
use Rattle.tpl_blocks.specs.Blocks.{block}
use Rattle.tpl_kept.specs.SameTexts.{lines_behind}
use Rattle.tpl_kept.proofs.Renewals.Leading.{lines_less}
use Rattle.tpl_kept.proofs.renewing.leading.+lines_behind.Goals as goal

pub returns-then-count-eq0 : goal.returns-then-count-eq0
returns-then-count-eq0 t c = ap (λ n. lines_behind n (block c.args.lines.now)) (sym c.if-count-eq0.true)

pub returns : goal.returns
returns t c =
    let some = c.if-count-eq0.false in
    c.lines_behind.ensures ∙ ap (lines_behind (c.args.count - 1)) c.rest_of.ensures ∙ lines_less c.args.count (block c.args.lines.now) (omega (arith, some))
