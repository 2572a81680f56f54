use Rattle.std.proofs.Common.{◌≡◌, ◌++◌, map, ap, ◌∙◌}
use Rattle.std.specs.Option.{option_copied}
use Rattle.page_model.specs.Forest.{after}
use Rattle.tpl_drawn.specs.Comparison.{restated_part, touched_part}
use Rattle.tpl_blocks.specs.Blocks.{block}
use Rattle.tpl_drawn.specs.Marks.{children_in, marks_in}
use Rattle.tpl_model.specs.KeptLines.Kept.{kept}
use Rattle.tpl_model.specs.ShownNodes.Shapes.{all_shown, child_of, mark_of}
use Rattle.tpl_model.specs.PageUpdates.PageMemos.{nodes}
use Rattle.tpl_drawn.specs.Walks.{where_listed}
use Rattle.tpl_drawn.proofs.comparing.node_marks.put_nodes_made.Goals as goal

pub returns : goal.returns
returns c = λ known k.
    let shape = nodes (option_copied c.args.key) (block c.args.lines.now) (kept c.args.memo.now) in
    let is : all_shown c.put_shown.new.out.items ≡ shape = c.in_ok-put_shown.ensures ∙ ap (λ z. after (all_shown z) shape) c.new-shown.ensures.items in
    let marks : map mark_of c.mark_all.new.marks.items ≡ marks_in known shape =
    c.in_ok-more.ensures.marks known k ∙ (λ i. map mark_of (c.in_ok-marks.ensures.items i) ++ marks_in known (is i)) in
    λ i. record {
      children = (c.in_ok-put_children.ensures
          ∙ ap (λ z. map child_of c.args.children.now.items ++ where_listed c.args.listed z) (c.in_ok-more.ensures.children known k ∙ ap (children_in known) is)) i;
      touched = (c.in_ok-put_marks.ensures.touched ∙ ap (λ z. map mark_of c.args.out.now.touched.items ++ map touched_part z) marks) i;
      restated = (c.in_ok-put_marks.ensures.restated ∙ ap (λ z. map mark_of c.args.out.now.restated.items ++ map restated_part z) marks) i;
    }
