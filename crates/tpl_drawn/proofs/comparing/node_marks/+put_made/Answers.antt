use Rattle.std.proofs.Common.{sym, ap, ◌∙◌}
use Rattle.std.specs.Option.{option_copied}
use Rattle.sig_formula.specs.Trees.{tree}
use Rattle.tpl_blocks.specs.Blocks.{block}
use Rattle.tpl_model.specs.KeptLines.Kept.{kept}
use Rattle.tpl_model.specs.Lines.{text}
use Rattle.tpl_model.specs.PageUpdates.PageMemos.{nodes}
use Rattle.tpl_drawn.specs.Walks.{of_made, walk_of}
use Rattle.tpl_drawn.proofs.Compares.Said.{made_parts}
use Rattle.tpl_drawn.proofs.Compares.Walks.{none_listed}
use Rattle.tpl_drawn.proofs.Placed.Placed.{unfit_shown}
use Rattle.tpl_drawn.proofs.comparing.node_marks.+put_made.Goals as goal

pub returns-then-not-fits : goal.returns-then-not-fits
returns-then-not-fits t c = λ known k.
    let key = option_copied c.args.key in
    let lines = block c.args.lines.now in
    let m = kept c.args.memo.now in
    none_listed c.args.listed (walk_of c.args.children.now.items c.args.out.now) (of_made known (nodes key lines m))
    (ap (of_made known) (unfit_shown key lines m (sym c.fits.ensures ∙ c.if-not-fits.true)))

pub returns : goal.returns
returns t c = λ known k.
    let key = option_copied c.args.key in
    let m = kept c.args.memo.now in
    let fit = rw c.in-Text.is at (sym c.fits.ensures ∙ c.if-not-fits.false) in
    rw c.in-Text.is
    (made_parts c.args.listed known key (text c.in-Text.line (tree c.in-Text.field-1) (block c.in-Text.rest.value)) m
    (walk_of c.args.children.now.items c.args.out.now) (walk_of c.put_text_made.new.children.items c.put_text_made.new.out)
    (walk_of c.put_made.new.children.items c.put_made.new.out) fit (c.in_ok-put_text_made.ensures fit known k)
    (rw (c.deref.ensures, c.later_of-later.ensures) at (c.in_ok-put_made.ensures known k)))
