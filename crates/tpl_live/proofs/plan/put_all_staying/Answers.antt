use Rattle.std.proofs.Common.{◌≡◌, ◌+◌, ◌++◌, [], append-nil, drop, map, sym, ap, ◌∙◌}
use Rattle.std.proofs.lemmas.List.{drop_all}
use Rattle.tpl_model.specs.ShownNodes.Shapes.{child_of}
use Rattle.tpl_live.specs.Plans.{number_staying, numbers_staying}
use Rattle.tpl_live.proofs.Planned.{left_split, one_more}
use Rattle.tpl_live.proofs.plan.put_all_staying.Goals as goal

pub loop-child-preserved : goal.loop-child-preserved
loop-child-preserved c =
    let i = c.loop-child.child-index in
    let xs = c.args.children.now in
    let x = c.child-item.result in
    one_more number_staying (child_of x) (map child_of (drop i xs)) (map child_of (drop (i + 1) xs)) (c.args.out.now.items ++ numbers_staying (map child_of xs))
    c.loop-child.out.items c.put_staying.new.out.items (left_split child_of xs i x c.loop-child-test.true c.child-item.is) c.in_ok-put_staying.ensures
    c.loop-child.invariant

pub returns : goal.returns
returns c =
    let done : drop c.loop-child.child-index c.args.children.now ≡ [] = drop_all c.loop-child.child-index c.args.children.now c.loop-child-test.false in
    sym (append-nil c.loop-child.out.items)
    ∙ (ap (λ z. c.loop-child.out.items ++ numbers_staying (map child_of z)) (sym done) ∙ c.loop-child.invariant)
