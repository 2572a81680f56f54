use Rattle.std.proofs.Common.{◌≡◌, ◌+◌, ◌++◌, ℕ, List, [], ◌∷◌, sym, ap, ◌∙◌, drop, map}
use Rattle.std.proofs.lemmas.List.{drop_more, drop_all}
use Rattle.std.proofs.lemmas.Grind.{common_steps}
use Rattle.std.proofs.Common.{arith}
use Rattle.page_model.specs.Texts.{AreSized, HaveTexts, written_nodes}
use Rattle.page_tree.specs.declared.sub.Sub.{Sub}
use Rattle.page_tree.specs.Subs.{side_by_side, sub_tree}
use Rattle.page_tree.proofs.Shared.{tree_element, tree_text, last_out, step_out}
use Rattle.page_ops.proofs.Written.{closed, element_parts, sized_after, written_cons, written_text}
use Rattle.page_ops.specs.Ops.{opened}
use Rattle.page_ops.proofs.writer.+put_sub.Goals as goal

pub loop-sub-preserved : goal.loop-sub-preserved
loop-sub-preserved t c =
    let i = c.loop-sub.sub-index in
    let subs = c.deref-sub-items.result.now in
    let s = c.sub-item.result in
    let all : List Sub → List ℕ = λ ss. written_nodes (side_by_side (map sub_tree ss)) in
    let e : drop i subs ≡ s ∷ drop (i + 1) subs = drop_more subs i s c.loop-sub-test.true ∙ ap (λ z. z ∷ drop (i + 1) subs) (sym c.sub-item.is) in
    let f : all (drop i subs) ≡ written_nodes (sub_tree s) ++ all (drop (i + 1) subs) = ap all e ∙ written_cons (sub_tree s) (map sub_tree (drop (i + 1) subs)) in
    record {
      text = step_out c.loop-sub.out.items c.put_sub.new.out.items (written_nodes (sub_tree s)) (all (drop (i + 1) subs)) (all (drop i subs)) _ c.in_ok-put_sub-in-Element.ensures.text f c.loop-sub.invariant.text;
      sized = λ h. c.loop-sub.invariant.sized (rw e (sized_after (sub_tree s) (side_by_side (map sub_tree (drop (i + 1) subs))) c.in_ok-put_sub-in-Element.ensures.sized h));
    }

pub returns-in_ok-put_bytes-in-Text-clause-text : goal.returns-in_ok-put_bytes-in-Text-clause-text
returns-in_ok-put_bytes-in-Text-clause-text t c =
    let w = ap (λ s. written_nodes (sub_tree s)) c.in-Text.is ∙ written_text c.in-Text.number c.in-Text.text in
    rw w (grind (arith, common_steps))

pub returns-in_ok-put_bytes-in-Text-clause-sized : goal.returns-in_ok-put_bytes-in-Text-clause-sized
returns-in_ok-put_bytes-in-Text-clause-sized t c = rw (ap sub_tree c.in-Text.is ∙ tree_text c.in-Text.number c.in-Text.text) (c.in_ok-put_number-in-Text.ensures.sized, c.in_ok-put_literal-in-Text.ensures.sized, tt, tt)

pub returns-in_ok-put_bytes-in-Element-clause-text : goal.returns-in_ok-put_bytes-in-Element-clause-text
returns-in_ok-put_bytes-in-Element-clause-text t c =
    let subs = c.deref-sub-items.result.now in
    let all : List Sub → List ℕ = λ ss. written_nodes (side_by_side (map sub_tree ss)) in
    let e : drop c.loop-sub.sub-index subs ≡ [] = drop_all c.loop-sub.sub-index subs c.loop-sub-test.false in
    let filled = last_out c.loop-sub.out.items (all (drop c.loop-sub.sub-index subs)) (c.put_opening.new.out.items ++ all subs) (ap all e) c.loop-sub.invariant.text ∙ ap (λ ss. c.put_opening.new.out.items ++ all ss) c.deref-sub-items.ensures.value in
    let begun : c.put_opening.new.out.items ≡ c.args.out.now.items ++ opened c.in-Element.number c.in-Element.name c.in-Element.attributes.items = c.in_ok-put_opening-in-Element.ensures.text ∙ ap (λ xs. c.args.out.now.items ++ opened c.in-Element.number c.in-Element.name xs) c.deref.ensures.value in
    closed c.args.out.now.items c.put_opening.new.out.items c.loop-sub.out.items _ (opened c.in-Element.number c.in-Element.name c.in-Element.attributes.items) (all c.in-Element.subs.items) (41 ∷ []) begun filled c.in_ok-put_bytes-in-Element.ensures
    ∙ ap (λ zs. c.args.out.now.items ++ zs) (element_parts c.in-Element.number c.in-Element.name c.in-Element.attributes c.in-Element.subs ∙ sym (ap (λ s. written_nodes (sub_tree s)) c.in-Element.is))

pub returns-in_ok-put_bytes-in-Element-clause-sized : goal.returns-in_ok-put_bytes-in-Element-clause-sized
returns-in_ok-put_bytes-in-Element-clause-sized t c =
    let subs = c.deref-sub-items.result.now in
    let e : drop c.loop-sub.sub-index subs ≡ [] = drop_all c.loop-sub.sub-index subs c.loop-sub-test.false in
    let below : AreSized (side_by_side (map sub_tree c.in-Element.subs.items)) = rw (← c.deref-sub-items.ensures.value) (c.loop-sub.invariant.sized (rw e tt)) in
    let opening = c.in_ok-put_opening-in-Element.ensures.sized in
    let texts : HaveTexts c.in-Element.attributes.items = rw (← c.deref.ensures.value) opening.1 in
    rw (ap sub_tree c.in-Element.is ∙ tree_element c.in-Element.number c.in-Element.name c.in-Element.attributes c.in-Element.subs) (opening.0, texts, below, tt)
