use Rattle.std.proofs.Common.{◌≡◌, ◌∷◌, ◌+◌, ◌++◌, refl, sym, ap, ◌∙◌, drop}
use Rattle.std.proofs.lemmas.List.{drop_more, drop_all}
use Rattle.page_model.specs.Labels as label
use Rattle.page_model.specs.Labels.{present}
use Rattle.tpl_scratch.specs.Pages.{no_children, nodes_of, with_nodes}
use Rattle.tpl_scratch.proofs.Shared.{with_element}
use Rattle.tpl_model.specs.ShownNodes.Shapes.{all_shown}
use Rattle.tpl_patch.proofs.Subtrees.{all_put, below_sound, element_came, one_put, text_came}
use Rattle.tpl_patch.proofs.arrivals.+coming.Goals as goal

pub put_element-returns : goal.put_element-returns
put_element-returns u c = λ a s.
    let read : c.put_attributes.new.out.items ≡ present c.args.attributes.now =
    c.in_ok-put_attributes.ensures ∙ ap (λ z. z ++ present c.args.attributes.now) c.new-values.ensures.items in
    let below : nodes_of c.put_nodes.new.out ≡ with_nodes (no_children (nodes_of c.args.out.now)) (all_shown c.args.children.now) =
    c.in_ok-put_nodes.ensures s ∙ ap (λ z. with_nodes z (all_shown c.args.children.now)) c.in_ok-below.ensures in
    c.in_ok-put_named.ensures
    ∙ with_element (nodes_of c.args.out.now) a c.args.name.now c.args.attributes.now (all_shown c.args.children.now) c.put_attributes.new.out.items
    (nodes_of c.put_nodes.new.out) read below

pub put_node-returns-in_ok-put_text-in-Text : goal.put_node-returns-in_ok-put_text-in-Text
put_node-returns-in_ok-put_text-in-Text u c = λ s.
    text_came (nodes_of c.args.out.now) (nodes_of c.put_text.new.self) c.args.node.now c.in-Text.text c.in_ok-text-in-Text.text c.in-Text.is s
    c.in_ok-text-in-Text.ensures c.in_ok-put_text-in-Text.ensures

pub put_node-returns-in_ok-put_element-in-Element : goal.put_node-returns-in_ok-put_element-in-Element
put_node-returns-in_ok-put_element-in-Element u c = λ s.
    element_came (nodes_of c.args.out.now) (nodes_of c.put_element.new.out) c.args.node.now _ c.in-Element.name c.deref.result.now c.deref-in-Element.result.now c.in-Element.is
    (ap (λ z. label.Element c.in-Element.name z) (sym c.deref.ensures.value)) c.deref-in-Element.ensures.value
    (λ a. c.in_ok-put_element-in-Element.ensures a (below_sound c.args.node.now c.deref-in-Element.result.now c.deref-in-Element.ensures.value s))

pub put_nodes-loop-node-init : goal.put_nodes-loop-node-init
put_nodes-loop-node-init u c = λ s. record { sound = s; put = refl }

pub put_nodes-loop-node-preserved : goal.put_nodes-loop-node-preserved
put_nodes-loop-node-preserved u c = λ s.
    let i = c.loop-node.node-index in
    let xs = c.args.nodes.now in
    let x = c.node-item.result in
    let rest : drop i xs ≡ x ∷ drop (i + 1) xs = drop_more xs i x c.loop-node-test.true ∙ ap (λ z. z ∷ drop (i + 1) xs) (sym c.node-item.is) in
    one_put (drop i xs) (drop (i + 1) xs) x (nodes_of c.loop-node.out) (nodes_of c.put_node.new.out) (with_nodes (nodes_of c.args.out.now) (all_shown xs)) rest
    c.in_ok-put_node.ensures (c.loop-node.invariant s)

pub put_nodes-returns : goal.put_nodes-returns
put_nodes-returns u c = λ s.
    all_put (drop c.loop-node.node-index c.args.nodes.now) (nodes_of c.loop-node.out) (with_nodes (nodes_of c.args.out.now) (all_shown c.args.nodes.now))
    (drop_all c.loop-node.node-index c.args.nodes.now c.loop-node-test.false) (c.loop-node.invariant s)
