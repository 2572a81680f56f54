use Rattle.std.proofs.Common.{◌++◌, map, refl, ap, ◌∙◌}
use Rattle.tpl_drawn.specs.Comparison.{restated_part, touched_part}
use Rattle.tpl_model.specs.ShownNodes.Shapes.{mark_of}
use Rattle.page_tree.proofs.Shared.{no_items}
use Rattle.tpl_drawn.proofs.Compares.Marks.{all_split, one_split}
use Rattle.tpl_drawn.proofs.comparing.node_marks.put_marks.Goals as goal

pub loop-mark-init : goal.loop-mark-init
loop-mark-init c = record { for_children = refl; for_looks = refl }

pub loop-mark-preserved : goal.loop-mark-preserved
loop-mark-preserved c =
    one_split (mark_of c.in-Some.mark) (map mark_of c.loop-mark.mark-iterator.rest.items) (map mark_of c.next.new.self.rest.items)
    (map mark_of c.into_iter-mark-iterator.result.rest.items) (map mark_of c.loop-mark.out.touched.items) (map mark_of c.loop-mark.out.restated.items)
    (map mark_of c.put_mark.new.out.touched.items) (map mark_of c.put_mark.new.out.restated.items) (map mark_of c.reserve.new.self.items)
    (map mark_of c.reserve-2.new.self.items) (ap (map mark_of) c.in-Some.ensures.steps.0) c.in_ok-put_mark.ensures.touched c.in_ok-put_mark.ensures.restated
    c.loop-mark.invariant

pub returns-clause-touched : goal.returns-clause-touched
returns-clause-touched c =
    let rest = c.loop-mark.mark-iterator.rest in
    (all_split (map mark_of rest.items) (map mark_of c.into_iter-mark-iterator.result.rest.items) (map mark_of c.loop-mark.out.touched.items)
    (map mark_of c.loop-mark.out.restated.items) (map mark_of c.reserve.new.self.items) (map mark_of c.reserve-2.new.self.items)
    (ap (map mark_of) (no_items rest.items rest.len rest.ok.0 c.in-None.ensures.steps.0)) c.loop-mark.invariant).0
    ∙ (ap (λ z. map mark_of c.reserve.new.self.items ++ map touched_part (map mark_of z)) c.into_iter-mark-iterator.ensures.into_iter_gives.0
    ∙ ap (λ z. map mark_of z ++ map touched_part (map mark_of c.args.marks.items)) c.in_ok-reserve.ensures.items)

pub returns-clause-restated : goal.returns-clause-restated
returns-clause-restated c =
    let rest = c.loop-mark.mark-iterator.rest in
    (all_split (map mark_of rest.items) (map mark_of c.into_iter-mark-iterator.result.rest.items) (map mark_of c.loop-mark.out.touched.items)
    (map mark_of c.loop-mark.out.restated.items) (map mark_of c.reserve.new.self.items) (map mark_of c.reserve-2.new.self.items)
    (ap (map mark_of) (no_items rest.items rest.len rest.ok.0 c.in-None.ensures.steps.0)) c.loop-mark.invariant).1
    ∙ (ap (λ z. map mark_of c.reserve-2.new.self.items ++ map restated_part (map mark_of z)) c.into_iter-mark-iterator.ensures.into_iter_gives.0
    ∙ ap (λ z. map mark_of z ++ map restated_part (map mark_of c.args.marks.items)) c.in_ok-reserve-2.ensures.items)
