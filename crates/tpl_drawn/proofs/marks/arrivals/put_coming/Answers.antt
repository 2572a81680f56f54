use Rattle.std.proofs.Common.{◌≡◌, ◌++◌, ◌∷◌, map, ap, ◌∙◌}
use Rattle.tpl_model.specs.ShownNodes.Addresses.{address_of}
use Rattle.tpl_model.specs.ShownNodes.Shapes.{child_of, mark_of}
use Rattle.tpl_drawn.specs.Addresses.{coming_below, coming_in}
use Rattle.page_tree.proofs.Shared.{last_out, no_items, step_out}
use Rattle.tpl_drawn.proofs.marks.arrivals.put_coming.Goals as goal

pub loop-mark-preserved : goal.loop-mark-preserved
loop-mark-preserved c =
    let rest = c.next.new.self.rest.items in
    let e : c.loop-mark.mark-iterator.rest.items ≡ c.in-Some.mark ∷ rest = c.in-Some.ensures.steps.0 in
    step_out (map address_of c.loop-mark.out.items) (map address_of c.put_children.new.out.items) (coming_in (map child_of c.in-Some.mark.children.items))
    (coming_below (map mark_of rest)) (coming_below (map mark_of c.loop-mark.mark-iterator.rest.items))
    (map address_of c.args.out.now.items ++ coming_below (map mark_of c.into_iter-mark-iterator.result.rest.items)) c.in_ok-put_children.ensures
    (ap (λ z. coming_below (map mark_of z)) e) c.loop-mark.invariant

pub returns : goal.returns
returns c =
    let rest = c.loop-mark.mark-iterator.rest in
    let given : c.into_iter-mark-iterator.result.rest.items ≡ c.args.marks.items = c.into_iter-mark-iterator.ensures.into_iter_gives.0 in
    last_out (map address_of c.loop-mark.out.items) (coming_below (map mark_of rest.items))
    (map address_of c.args.out.now.items ++ coming_below (map mark_of c.into_iter-mark-iterator.result.rest.items))
    (ap (λ z. coming_below (map mark_of z)) (no_items rest.items rest.len rest.ok.0 c.in-None.ensures.steps.0)) c.loop-mark.invariant
    ∙ ap (λ z. map address_of c.args.out.now.items ++ coming_below (map mark_of z)) given
