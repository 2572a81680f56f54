use Rattle.std.proofs.Common.{◌++◌, [], ◌∷◌, map, take, arith, sym, ap, ◌∙◌}
use Rattle.std.proofs.lemmas.List.{map-append, take_all}
use Rattle.tpl_drawn.proofs.Shared.{mapped_more}
use Rattle.tpl_model.specs.ShownNodes.Shapes.{Marked, mark_of}
use Rattle.tpl_live.specs.Plans.{numbers_of}
use Rattle.tpl_live.proofs.plan.mark_numbers.Goals as goal

pub loop-mark-init : goal.loop-mark-init
loop-mark-init c = c.new-numbers.ensures.items

pub loop-mark-preserved : goal.loop-mark-preserved
loop-mark-preserved c =
    let ms = c.args.marks.now in
    let m = c.mark-item.result in
    c.in_ok-push.ensures.items
    ∙ (ap (λ z. z ++ m.number ∷ []) c.loop-mark.invariant
    ∙ sym (ap numbers_of (mapped_more mark_of ms c.loop-mark.mark-index m c.loop-mark-test.true c.mark-item.is)
    ∙ map-append (λ (k : Marked). k.number) (map mark_of (take c.loop-mark.mark-index ms)) (mark_of m ∷ [])))

pub returns : goal.returns
returns c = c.loop-mark.invariant ∙ ap (λ z. numbers_of (map mark_of z)) (take_all c.loop-mark.mark-index c.args.marks.now (omega arith))
