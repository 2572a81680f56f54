use Rattle.std.proofs.Common.{◌++◌, [], ◌∷◌, None, map, ap, ◌∙◌}
use Rattle.std.proofs.lemmas.List.{map-append}
use Rattle.tpl_drawn.specs.Marks.{children_in}
use Rattle.tpl_model.specs.ShownNodes.Shapes.{all_shown, child_of, comes, shown_tree}
use Rattle.page_tree.proofs.Shared.{last_out, no_items, step_out}
use Rattle.tpl_drawn.proofs.Compares.Siblings.{all_new}
use Rattle.tpl_drawn.proofs.comparing.children.put_new.Goals as goal

pub loop-node-preserved : goal.loop-node-preserved
loop-node-preserved c =
    let rest = c.next.new.self.rest.items in
    step_out (map child_of c.loop-node.children.items) (map child_of c.push.new.self.items) (comes (shown_tree c.in-Some.node) ∷ [])
    (children_in (λ a. None) (all_shown rest)) (children_in (λ a. None) (all_shown c.loop-node.node-iterator.rest.items))
    (map child_of c.args.children.now.items ++ children_in (λ a. None) (all_shown c.into_iter-node-iterator.result.rest.items))
    (ap (map child_of) c.in_ok-push.ensures.items ∙ (map-append child_of c.loop-node.children.items _
    ∙ ap (λ z. map child_of c.loop-node.children.items ++ comes (shown_tree z) ∷ []) c.in_ok-coming.ensures.ok))
    (ap (λ z. children_in (λ a. None) (all_shown z)) c.in-Some.ensures.steps.0 ∙ all_new c.in-Some.node rest) c.loop-node.invariant

pub returns : goal.returns
returns c =
    let rest = c.loop-node.node-iterator.rest in
    last_out (map child_of c.loop-node.children.items) (children_in (λ a. None) (all_shown rest.items))
    (map child_of c.args.children.now.items ++ children_in (λ a. None) (all_shown c.into_iter-node-iterator.result.rest.items))
    (ap (λ z. children_in (λ a. None) (all_shown z)) (no_items rest.items rest.len rest.ok.0 c.in-None.ensures.steps.0)) c.loop-node.invariant
    ∙ ap (λ z. map child_of c.args.children.now.items ++ children_in (λ a. None) (all_shown z)) c.into_iter-node-iterator.ensures.into_iter_gives.0
