use Rattle.std.proofs.Common.{◌≡◌, ℕ, List, Option, ◌++◌, [], ◌∷◌, map, refl, sym, ap, ◌∙◌}
use Rattle.std.specs.Box.{box_value}
use Rattle.std.proofs.lemmas.List.{map-append}
use Rattle.page_model.specs.Forest.{none}
use Rattle.tpl_model.specs.ShownNodes.Addresses.{address_of}
use Rattle.tpl_model.specs.ShownNodes.Shapes.{all_shown, child_of, comes, look_of, mark_of, shown_tree, stays}
use Rattle.tpl_model.specs.declared.shown.Shown.TheViews.{out-Shown}
use Rattle.tpl_model.proofs.Shared.{tree_is, tree_shown}
use Rattle.tpl_drawn.specs.Marks.{children_in, marks_in}
use Rattle.tpl_drawn.specs.Addresses.{address_at, number_on}
use Rattle.page_tree.proofs.Shared.{no_items}
use Rattle.tpl_drawn.proofs.Numbered.Marks.{all_marked, is_new, is_there, none_marked, one_marked}
use Rattle.tpl_drawn.proofs.marks.marker.+marking.Goals as goal

-- ---- one node

pub mark_node-returns-clause-child : goal.mark_node-returns-clause-child
mark_node-returns-clause-child t c = λ known kn.
    let node = out-Shown c.args.node in
    let asked = ap (λ (k : Option (List ℕ)). number_on c.args.page.now (address_at node.address.line k)) c.as_ref.ensures.value in
    let known_by = sym (c.in_ok-number.ensures ∙ asked) ∙ c.in-Some.is in
    (is_there (number_on c.args.page.now) node.address c.in-Some.number (address_of node.address) (look_of node.look) (all_shown node.children.items)
    (shown_tree c.args.node) (stays c.in-Some.number) (map child_of c.in_ok-children.children.items) (map mark_of c.args.marks.now.items)
    (map mark_of c.mark_all.new.marks.items) (map mark_of c.push.new.self.items) (tree_is c.args.node) known_by
    (λ known k. k node.address) refl (record { children = c.in_ok-children.ensures.children; marks = c.in_ok-children.ensures.marks })
    (ap (map mark_of) c.in_ok-push.ensures.items ∙ map-append mark_of c.mark_all.new.marks.items _)).child known kn

pub mark_node-returns-clause-marks : goal.mark_node-returns-clause-marks
mark_node-returns-clause-marks t c = λ known kn.
    let node = out-Shown c.args.node in
    let asked = ap (λ (k : Option (List ℕ)). number_on c.args.page.now (address_at node.address.line k)) c.as_ref.ensures.value in
    let known_by = sym (c.in_ok-number.ensures ∙ asked) ∙ c.in-Some.is in
    (is_there (number_on c.args.page.now) node.address c.in-Some.number (address_of node.address) (look_of node.look) (all_shown node.children.items)
    (shown_tree c.args.node) (stays c.in-Some.number) (map child_of c.in_ok-children.children.items) (map mark_of c.args.marks.now.items)
    (map mark_of c.mark_all.new.marks.items) (map mark_of c.push.new.self.items) (tree_is c.args.node) known_by
    (λ known k. k node.address) refl (record { children = c.in_ok-children.ensures.children; marks = c.in_ok-children.ensures.marks })
    (ap (map mark_of) c.in_ok-push.ensures.items ∙ map-append mark_of c.mark_all.new.marks.items _)).marks known kn

pub mark_node-returns-in_default-clause-child : goal.mark_node-returns-in_default-clause-child
mark_node-returns-in_default-clause-child t c = λ known kn.
    let node = out-Shown c.args.node in
    let asked = ap (λ (k : Option (List ℕ)). number_on c.args.page.now (address_at node.address.line k)) c.as_ref.ensures.value in
    let known_by = sym (c.in_ok-number.ensures ∙ asked) ∙ c.in_default.is in
    let boxed = ap (λ z. comes (shown_tree z)) c.in_ok-coming.ensures.ok in
    (is_new (number_on c.args.page.now) node.address (address_of node.address) (look_of node.look) (all_shown node.children.items) (shown_tree c.args.node)
    (comes (shown_tree (box_value c.in_ok-coming.coming))) (map mark_of c.args.marks.now.items) (tree_is c.args.node) known_by (λ known k. k node.address)
    (boxed ∙ ap comes (tree_shown node.address node.look node.children ∙ sym (tree_is c.args.node)))).child known kn

pub mark_node-returns-in_default-clause-marks : goal.mark_node-returns-in_default-clause-marks
mark_node-returns-in_default-clause-marks t c = λ known kn.
    let node = out-Shown c.args.node in
    let asked = ap (λ (k : Option (List ℕ)). number_on c.args.page.now (address_at node.address.line k)) c.as_ref.ensures.value in
    let known_by = sym (c.in_ok-number.ensures ∙ asked) ∙ c.in_default.is in
    let boxed = ap (λ z. comes (shown_tree z)) c.in_ok-coming.ensures.ok in
    (is_new (number_on c.args.page.now) node.address (address_of node.address) (look_of node.look) (all_shown node.children.items) (shown_tree c.args.node)
    (comes (shown_tree (box_value c.in_ok-coming.coming))) (map mark_of c.args.marks.now.items) (tree_is c.args.node) known_by (λ known k. k node.address)
    (boxed ∙ ap comes (tree_shown node.address node.look node.children ∙ sym (tree_is c.args.node)))).marks known kn

-- ---- nodes one after the other

pub mark_all-loop-node-init : goal.mark_all-loop-node-init
mark_all-loop-node-init t c =
    none_marked (number_on c.args.page.now) (all_shown c.into_iter-node-iterator.result.rest.items) (map child_of c.in_ok-children.children.items)
    (map mark_of c.args.marks.now.items) (map mark_of c.args.marks.now.items) (ap (map child_of) c.in_ok-children.ensures.items) refl

pub mark_all-loop-node-preserved : goal.mark_all-loop-node-preserved
mark_all-loop-node-preserved t c =
    one_marked (number_on c.args.page.now) (shown_tree c.in-Some.node) (all_shown c.next.new.self.rest.items) (all_shown c.loop-node.node-iterator.rest.items)
    (all_shown c.into_iter-node-iterator.result.rest.items) (map child_of c.loop-node.children.items) (map child_of c.push.new.self.items) (child_of c.in_ok-child.child)
    (map mark_of c.loop-node.marks.items) (map mark_of c.mark_node.new.marks.items) (map mark_of c.args.marks.now.items) (ap all_shown c.in-Some.ensures.steps.0)
    (ap (map child_of) c.in_ok-push.ensures.items ∙ map-append child_of c.loop-node.children.items (c.in_ok-child.child ∷ []))
    (record { child = c.in_ok-child.ensures.child; marks = c.in_ok-child.ensures.marks }) c.loop-node.invariant

pub mark_all-returns-clause-children : goal.mark_all-returns-clause-children
mark_all-returns-clause-children t c = λ known kn.
    let rest = c.loop-node.node-iterator.rest in
    let none_left : all_shown rest.items ≡ none = ap all_shown (no_items rest.items rest.len rest.ok.0 c.in-None.ensures.steps.0) in
    let all = all_marked (number_on c.args.page.now) (all_shown rest.items) (all_shown c.into_iter-node-iterator.result.rest.items)
    (map child_of c.loop-node.children.items) (map mark_of c.loop-node.marks.items) (map mark_of c.args.marks.now.items) none_left c.loop-node.invariant in
    all.children known kn ∙ ap (λ z. children_in known (all_shown z)) c.into_iter-node-iterator.ensures.into_iter_gives.0

pub mark_all-returns-clause-marks : goal.mark_all-returns-clause-marks
mark_all-returns-clause-marks t c = λ known kn.
    let rest = c.loop-node.node-iterator.rest in
    let none_left : all_shown rest.items ≡ none = ap all_shown (no_items rest.items rest.len rest.ok.0 c.in-None.ensures.steps.0) in
    let all = all_marked (number_on c.args.page.now) (all_shown rest.items) (all_shown c.into_iter-node-iterator.result.rest.items)
    (map child_of c.loop-node.children.items) (map mark_of c.loop-node.marks.items) (map mark_of c.args.marks.now.items) none_left c.loop-node.invariant in
    all.marks known kn ∙ ap (λ z. map mark_of c.args.marks.now.items ++ marks_in known (all_shown z)) c.into_iter-node-iterator.ensures.into_iter_gives.0
