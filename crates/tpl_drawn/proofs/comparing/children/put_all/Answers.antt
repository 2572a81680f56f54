use Rattle.std.proofs.Common.{◌++◌, [], ◌∷◌, map, ap, ◌∙◌}
use Rattle.std.proofs.lemmas.List.{map-append}
use Rattle.tpl_model.specs.ShownNodes.Shapes.{child_of}
use Rattle.page_tree.proofs.Shared.{last_out, no_items, step_out}
use Rattle.tpl_drawn.proofs.comparing.children.put_all.Goals as goal

pub loop-child-preserved : goal.loop-child-preserved
loop-child-preserved c =
    let rest = c.next.new.self.rest.items in
    step_out (map child_of c.loop-child.children.items) (map child_of c.push.new.self.items) (child_of c.in-Some.child ∷ []) (map child_of rest)
    (map child_of c.loop-child.child-iterator.rest.items)
    (map child_of c.args.children.now.items ++ map child_of c.into_iter-child-iterator.result.rest.items)
    (ap (map child_of) c.in_ok-push.ensures.items ∙ map-append child_of c.loop-child.children.items (c.in-Some.child ∷ []))
    (ap (map child_of) c.in-Some.ensures.steps.0) c.loop-child.invariant

pub returns : goal.returns
returns c =
    let rest = c.loop-child.child-iterator.rest in
    last_out (map child_of c.loop-child.children.items) (map child_of rest.items)
    (map child_of c.args.children.now.items ++ map child_of c.into_iter-child-iterator.result.rest.items)
    (ap (map child_of) (no_items rest.items rest.len rest.ok.0 c.in-None.ensures.steps.0)) c.loop-child.invariant
    ∙ ap (λ z. map child_of c.args.children.now.items ++ map child_of z) c.into_iter-child-iterator.ensures.into_iter_gives.0
