use Rattle.std.proofs.Common.{◌≡◌, ◌+◌, ◌++◌, [], append-nil, drop, map, sym, ap, ◌∙◌}
use Rattle.std.proofs.lemmas.List.{drop_all}
use Rattle.tpl_model.specs.ShownNodes.Shapes.{Marked, child_of, mark_of}
use Rattle.tpl_live.specs.Plans.{children_staying, numbers_staying}
use Rattle.tpl_live.proofs.Planned.{left_split, one_more}
use Rattle.tpl_live.proofs.plan.staying.Goals as goal

pub loop-mark-init : goal.loop-mark-init
loop-mark-init c = ap (λ z. z ++ children_staying (map mark_of c.args.marks.now)) c.new-numbers.ensures.items

pub loop-mark-preserved : goal.loop-mark-preserved
loop-mark-preserved c =
    let i = c.loop-mark.mark-index in
    let xs = c.args.marks.now in
    let x = c.mark-item.result in
    one_more (λ (m : Marked). numbers_staying m.children) (mark_of x) (map mark_of (drop i xs)) (map mark_of (drop (i + 1) xs)) (children_staying (map mark_of xs))
    c.loop-mark.numbers.items c.put_all_staying.new.out.items (left_split mark_of xs i x c.loop-mark-test.true c.mark-item.is)
    (c.in_ok-put_all_staying.ensures ∙ (λ j. c.in_ok-reserve.ensures.items j ++ numbers_staying (map child_of (c.deref.ensures.value j)))) c.loop-mark.invariant

pub returns : goal.returns
returns c =
    let done : drop c.loop-mark.mark-index c.args.marks.now ≡ [] = drop_all c.loop-mark.mark-index c.args.marks.now c.loop-mark-test.false in
    sym (append-nil c.loop-mark.numbers.items)
    ∙ (ap (λ z. c.loop-mark.numbers.items ++ children_staying (map mark_of z)) (sym done) ∙ c.loop-mark.invariant)
