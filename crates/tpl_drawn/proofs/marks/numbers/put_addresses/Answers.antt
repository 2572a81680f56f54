use Rattle.std.proofs.Common.{◌≡◌, ◌++◌, ◌∷◌, map, ap, ◌∙◌}
use Rattle.page_model.specs.Forest.{keys}
use Rattle.tpl_model.specs.ShownNodes.Addresses.{address_of}
use Rattle.tpl_model.specs.ShownNodes.Shapes.{all_shown, shown_tree}
use Rattle.page_tree.proofs.Shared.{last_out, no_items, step_out}
use Rattle.tpl_drawn.proofs.Numbered.Lists.{keys_after}
use Rattle.tpl_drawn.proofs.marks.numbers.put_addresses.Goals as goal

pub loop-node-preserved : goal.loop-node-preserved
loop-node-preserved c =
    let rest = c.next.new.self.rest.items in
    let e : c.loop-node.node-iterator.rest.items ≡ c.in-Some.node ∷ rest = c.in-Some.ensures.steps.0 in
    step_out (map address_of c.loop-node.out.items) (map address_of c.put_address.new.out.items) (keys (shown_tree c.in-Some.node)) (keys (all_shown rest))
    (keys (all_shown c.loop-node.node-iterator.rest.items))
    (map address_of c.args.out.now.items ++ keys (all_shown c.into_iter-node-iterator.result.rest.items)) c.in_ok-put_address.ensures
    (ap (λ z. keys (all_shown z)) e ∙ keys_after (shown_tree c.in-Some.node) (all_shown rest)) c.loop-node.invariant

pub returns : goal.returns
returns c =
    let rest = c.loop-node.node-iterator.rest in
    let given : c.into_iter-node-iterator.result.rest.items ≡ c.args.nodes.items = c.into_iter-node-iterator.ensures.into_iter_gives.0 in
    last_out (map address_of c.loop-node.out.items) (keys (all_shown rest.items))
    (map address_of c.args.out.now.items ++ keys (all_shown c.into_iter-node-iterator.result.rest.items))
    (ap (λ z. keys (all_shown z)) (no_items rest.items rest.len rest.ok.0 c.in-None.ensures.steps.0)) c.loop-node.invariant
    ∙ ap (λ z. map address_of c.args.out.now.items ++ keys (all_shown z)) given
