use Rattle.std.proofs.Common.{◌++◌, ◌∷◌, [], append-nil, if◌then◌else◌, map, sym, ap, ◌∙◌}
use Rattle.page_tree.proofs.Shared.{no_items}
use Rattle.tpl_model.specs.ShownNodes.Shapes.{Marked, mark_of}
use Rattle.tpl_live.specs.Plans.{keeps_children, moving}
use Rattle.tpl_live.proofs.Planned.{one_more}
use Rattle.tpl_live.proofs.plan.moving.Goals as goal

pub loop-mark-init : goal.loop-mark-init
loop-mark-init c = ap (λ z. map mark_of z ++ moving c.args.tree.now (map mark_of c.into_iter-mark-iterator.result.rest.items)) c.new-left.ensures.items

pub loop-mark-preserved : goal.loop-mark-preserved
loop-mark-preserved c =
    one_more (λ (m : Marked). if keeps_children c.args.tree.now m then [] else m ∷ []) (mark_of c.in-Some.mark) (map mark_of c.loop-mark.mark-iterator.rest.items)
    (map mark_of c.next.new.self.rest.items) (moving c.args.tree.now (map mark_of c.into_iter-mark-iterator.result.rest.items)) (map mark_of c.loop-mark.left.items)
    (map mark_of c.put_moving.new.out.items) (ap (map mark_of) c.in-Some.ensures.steps.0)
    (c.in_ok-put_moving.ensures ∙ ap (λ z. map mark_of c.loop-mark.left.items ++ z) (append-nil (if keeps_children c.args.tree.now (mark_of c.in-Some.mark) then [] else mark_of c.in-Some.mark ∷ [])))
    c.loop-mark.invariant

pub returns : goal.returns
returns c =
    let rest = c.loop-mark.mark-iterator.rest in
    sym (append-nil (map mark_of c.loop-mark.left.items))
    ∙ (ap (λ z. map mark_of c.loop-mark.left.items ++ moving c.args.tree.now (map mark_of z)) (sym (no_items rest.items rest.len rest.ok.0 c.in-None.ensures.steps.0))
    ∙ (c.loop-mark.invariant ∙ ap (λ z. moving c.args.tree.now (map mark_of z)) c.into_iter-mark-iterator.ensures.into_iter_gives.0))
