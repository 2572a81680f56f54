use Rattle.std.proofs.Common.{ap, map, sym, ◌∙◌}
use Rattle.page_model.specs.Forest.{Forest, node, none}
use Rattle.page_model.specs.Labels.{Look, Root}
use Rattle.page_ops.specs.Ops.{op_of}
use Rattle.tpl_blocks.specs.Blocks.{block}
use Rattle.tpl_model.specs.KeptLines.Kept.{kept}
use Rattle.tpl_model.specs.ShownNodes.Shapes.{all_shown}
use Rattle.tpl_scratch.specs.Pages.{nodes_of}
use Rattle.tpl_live.specs.Pages.{below_in, inserts}
use Rattle.tpl_live.proofs.Inserted.{many_inserted, put_first}
use Rattle.tpl_live.proofs.first.first_nodes.Goals as goal

pub tree_by-requires : goal.tree_by-requires
tree_by-requires c =
    let out = c.put_nodes.new.out in
    let p = put_first (block c.args.lines.now) (kept c.args.memo.now) c.new-shown.result.items (all_shown c.put_shown.new.out.items) out.subs.items out.next
    (nodes_of c.new-out.result) c.new-shown.ensures.items c.in_ok-put_shown.ensures c.requires.sound c.new-out.ensures
    (rw c.deref.ensures.value at c.in_ok-put_nodes.ensures) in
    record {
      below = below_in (block c.args.lines.now) (kept c.args.memo.now);
      inserted = c.requires.inserted;
      are = ap (map op_of) c.deref-2.ensures.value ∙ (c.in_ok-ops.ensures ∙ ap (inserts 0) p.nodes);
    }

pub read_numbers-requires : goal.read_numbers-requires
read_numbers-requires c =
    let b = block c.args.lines.now in
    let m = kept c.args.memo.now in
    let out = c.put_nodes.new.out in
    let p = put_first b m c.new-shown.result.items (all_shown c.put_shown.new.out.items) out.subs.items out.next
    (nodes_of c.new-out.result) c.new-shown.ensures.items c.in_ok-put_shown.ensures c.requires.sound c.new-out.ensures
    (rw c.deref.ensures.value at c.in_ok-put_nodes.ensures) in
    many_inserted b m (all_shown c.put_shown.new.out.items) c.in_ok-tree.tree p.drawn
    (c.in_ok-tree.ensures (below_in b m) c.requires.inserted (ap (map op_of) c.deref-2.ensures.value ∙ (c.in_ok-ops.ensures ∙ ap (inserts 0) p.nodes)))

pub returns : goal.returns
returns c =
    let b = block c.args.lines.now in
    let m = kept c.args.memo.now in
    let out = c.put_nodes.new.out in
    let f = put_first b m c.new-shown.result.items (all_shown c.put_shown.new.out.items) out.subs.items out.next
    (nodes_of c.new-out.result) c.new-shown.ensures.items c.in_ok-put_shown.ensures c.requires.sound c.new-out.ensures
    (rw c.deref.ensures.value at c.in_ok-put_nodes.ensures) in
    record {
      tree = c.in_ok-tree.ensures (below_in b m) c.requires.inserted (ap (map op_of) c.deref-2.ensures.value ∙ (c.in_ok-ops.ensures ∙ ap (inserts 0) f.nodes));
      ops = c.in_ok-ops.ensures ∙ ap (inserts 0) f.nodes;
      next = f.count;
      lines = λ p q shape. c.in_ok-numbers.ensures.lines p q (shape ∙ ap (λ (z : Forest Look). node 0 Root z none) (sym f.drawn));
      numbers = λ p q shape. c.in_ok-numbers.ensures.numbers p q (shape ∙ ap (λ (z : Forest Look). node 0 Root z none) (sym f.drawn));
    }
