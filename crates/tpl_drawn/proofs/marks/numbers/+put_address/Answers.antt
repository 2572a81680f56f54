use Rattle.std.proofs.Common.{◌≡◌, ◌++◌, [], ◌∷◌, map, ap, ◌∙◌}
use Rattle.std.proofs.lemmas.List.{map-append}
use Rattle.page_model.specs.Forest.{keys}
use Rattle.tpl_model.specs.ShownNodes.Addresses.{address_of}
use Rattle.tpl_model.specs.ShownNodes.Shapes.{all_shown, look_of, shown_tree}
use Rattle.tpl_model.specs.declared.shown.Shown.TheViews.{out-Shown}
use Rattle.tpl_model.proofs.Shared.{tree_is}
use Rattle.page_tree.proofs.Shared.{last_out, no_items, step_out}
use Rattle.tpl_drawn.proofs.Numbered.Lists.{keys_after, node_out}
use Rattle.tpl_drawn.proofs.marks.numbers.+put_address.Goals as goal

pub loop-child-preserved : goal.loop-child-preserved
loop-child-preserved t c =
    let rest = c.next.new.self.rest.items in
    let e : c.loop-child.child-iterator.rest.items ≡ c.in-Some.child ∷ rest = c.in-Some.ensures.steps.0 in
    step_out (map address_of c.loop-child.out.items) (map address_of c.put_address.new.out.items) (keys (shown_tree c.in-Some.child)) (keys (all_shown rest))
    (keys (all_shown c.loop-child.child-iterator.rest.items))
    (map address_of c.push.new.self.items ++ keys (all_shown c.into_iter-child-iterator.result.rest.items)) c.in_ok-put_address.ensures
    (ap (λ z. keys (all_shown z)) e ∙ keys_after (shown_tree c.in-Some.child) (all_shown rest)) c.loop-child.invariant

pub returns : goal.returns
returns t c =
    let node = out-Shown c.args.node in
    let rest = c.loop-child.child-iterator.rest in
    let given : c.into_iter-child-iterator.result.rest.items ≡ node.children.items = c.into_iter-child-iterator.ensures.into_iter_gives.0 in
    let all = last_out (map address_of c.loop-child.out.items) (keys (all_shown rest.items))
    (map address_of c.push.new.self.items ++ keys (all_shown c.into_iter-child-iterator.result.rest.items))
    (ap (λ z. keys (all_shown z)) (no_items rest.items rest.len rest.ok.0 c.in-None.ensures.steps.0)) c.loop-child.invariant in
    let put : map address_of c.push.new.self.items ≡ map address_of c.args.out.now.items ++ address_of node.address ∷ [] =
    ap (map address_of) c.in_ok-push.ensures.items ∙ map-append address_of c.args.out.now.items (node.address ∷ []) in
    node_out (map address_of c.args.out.now.items) (map address_of c.loop-child.out.items) (address_of node.address) (look_of node.look) (all_shown node.children.items)
    (shown_tree c.args.node) (tree_is c.args.node) (all ∙ (λ i. put i ++ keys (all_shown (given i))))
