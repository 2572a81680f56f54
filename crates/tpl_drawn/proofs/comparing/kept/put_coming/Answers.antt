use Rattle.std.proofs.Common.{map, ap}
use Rattle.std.specs.Option.{option_copied}
use Rattle.page_model.specs.Addresses.{address}
use Rattle.page_model.specs.Labels.{Element}
use Rattle.tpl_blocks.specs.Blocks.{block, waiting}
use Rattle.tpl_model.specs.KeptLines.Kept.{kept}
use Rattle.tpl_drawn.specs.Shown.{attributes_of, inside_of}
use Rattle.tpl_model.specs.ShownNodes.Shapes.{all_shown, child_of}
use Rattle.tpl_model.specs.PageUpdates.PageMemos.{nodes, values}
use Rattle.tpl_drawn.proofs.Compares.Siblings.{put_new_node}
use Rattle.tpl_drawn.proofs.comparing.kept.put_coming.Goals as goal

pub returns : goal.returns
returns c = λ known h.
    put_new_node known (address c.args.line (option_copied c.args.key))
    (Element c.args.name.now (values (waiting c.args.attributes.now) (attributes_of (kept c.args.memo.now))))
    (nodes (option_copied c.args.key) (block c.args.inner.now) (inside_of (kept c.args.memo.now))) (map child_of c.args.children.now.items)
    (map child_of c.put_new.new.children.items) (all_shown c.new-shown.result.items) (all_shown c.put_element.new.out.items) h
    c.in_ok-put_new.ensures c.in_ok-put_element.ensures (ap all_shown c.new-shown.ensures.items)
