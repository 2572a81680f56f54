use Rattle.std.proofs.Common.{sym, ◌∙◌}
use Rattle.std.specs.Option.{option_copied}
use Rattle.tpl_blocks.specs.Blocks.{block}
use Rattle.tpl_model.specs.KeptLines.Kept.{kept}
use Rattle.tpl_model.specs.PageUpdates.PageMemos.{nodes}
use Rattle.tpl_drawn.specs.Shown.{inside_of, shows}
use Rattle.tpl_drawn.specs.Walks.{of_tried, walk_of}
use Rattle.tpl_drawn.proofs.Compares.Walks.{branch_off, branch_on}
use Rattle.tpl_drawn.proofs.comparing.node_marks.put_part.Goals as goal

pub returns-then-not-shows : goal.returns-then-not-shows
returns-then-not-shows c = λ known k.
    branch_off c.args.listed (shows (kept c.args.memo.now) c.args.first) _ (walk_of c.args.children.now.items c.args.out.now) (sym c.shows.ensures ∙ c.if-not-shows.true)

pub returns : goal.returns
returns c = λ known k.
    branch_on c.args.listed (shows (kept c.args.memo.now) c.args.first)
    (of_tried known c.args.same (nodes (option_copied c.args.key) (block c.args.lines.now) (inside_of (kept c.args.memo.now))))
    (walk_of c.args.children.now.items c.args.out.now)
    (walk_of c.put_tried.new.children.items c.put_tried.new.out) (sym c.shows.ensures ∙ c.if-not-shows.false)
    (rw c.inside_of.ensures at (c.in_ok-put_tried.ensures known k))
