use Rattle.std.proofs.Common.{map, refl, ap, ◌∙◌}
use Rattle.std.specs.Option.{option_copied}
use Rattle.tpl_blocks.specs.Blocks.{block}
use Rattle.tpl_model.specs.KeptLines.Kept.{kept}
use Rattle.tpl_model.specs.PageUpdates.PageMemos.{nodes}
use Rattle.tpl_model.specs.ShownNodes.Shapes.{child_of}
use Rattle.tpl_drawn.specs.Walks.{as_listed, further, walk_of}
use Rattle.tpl_drawn.proofs.Compares.Walks.{alone_listed, put_staying_gone, tried_made, tried_stays}
use Rattle.tpl_drawn.proofs.comparing.node_marks.put_tried.Goals as goal

pub returns-then-same : goal.returns-then-same
returns-then-same c = λ known k.
    put_staying_gone (map child_of c.args.children.now.items) (map child_of c.put_if_listed.new.children.items) (walk_of c.args.children.now.items c.args.out.now) _
    (alone_listed c.args.listed _ _
    (tried_stays known c.args.same (nodes (option_copied c.args.key) (block c.args.lines.now) (kept c.args.memo.now)) c.if-same.true)) refl
    (c.in_ok-put_if_listed.ensures known k)

pub returns : goal.returns
returns c = λ known k.
    c.in_ok-put_made.ensures known k
    ∙ ap (λ z. further (walk_of c.args.children.now.items c.args.out.now) (as_listed c.args.listed z))
    (tried_made known c.args.same (nodes (option_copied c.args.key) (block c.args.lines.now) (kept c.args.memo.now)) c.if-same.false)
