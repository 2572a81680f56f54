use Rattle.std.proofs.Common.{◌≡◌, ◌++◌, [], ◌∷◌, map, ap, ◌∙◌}
use Rattle.tpl_model.specs.ShownNodes.Addresses.{address_of}
use Rattle.tpl_model.specs.ShownNodes.Shapes.{child_of}
use Rattle.tpl_drawn.specs.Addresses.{coming_in}
use Rattle.tpl_drawn.proofs.Numbered.Children.{first_comes}
use Rattle.page_tree.proofs.Shared.{last_out, no_items, step_out}
use Rattle.tpl_drawn.proofs.marks.arrivals.put_children.Goals as goal

pub loop-child-preserved : goal.loop-child-preserved
loop-child-preserved c =
    let rest = c.next.new.self.rest.items in
    let e : c.loop-child.child-iterator.rest.items ≡ c.in-Some.child ∷ rest = c.in-Some.ensures.steps.0 in
    step_out (map address_of c.loop-child.out.items) (map address_of c.put_child.new.out.items) (coming_in (child_of c.in-Some.child ∷ []))
    (coming_in (map child_of rest)) (coming_in (map child_of c.loop-child.child-iterator.rest.items))
    (map address_of c.args.out.now.items ++ coming_in (map child_of c.into_iter-child-iterator.result.rest.items)) c.in_ok-put_child.ensures
    (ap (λ z. coming_in (map child_of z)) e ∙ first_comes (child_of c.in-Some.child) (map child_of rest)) c.loop-child.invariant

pub returns : goal.returns
returns c =
    let rest = c.loop-child.child-iterator.rest in
    let given : c.into_iter-child-iterator.result.rest.items ≡ c.args.children.items = c.into_iter-child-iterator.ensures.into_iter_gives.0 in
    last_out (map address_of c.loop-child.out.items) (coming_in (map child_of rest.items))
    (map address_of c.args.out.now.items ++ coming_in (map child_of c.into_iter-child-iterator.result.rest.items))
    (ap (λ z. coming_in (map child_of z)) (no_items rest.items rest.len rest.ok.0 c.in-None.ensures.steps.0)) c.loop-child.invariant
    ∙ ap (λ z. map address_of c.args.out.now.items ++ coming_in (map child_of z)) given
