use Rattle.std.proofs.Common.{◌≡◌, ◌+◌, ◌++◌, ℕ, List, [], ◌∷◌, sym, ap, ◌∙◌, drop, map, append_assoc}
use Rattle.std.proofs.lemmas.List.{drop_more, drop_all}
use Rattle.page_tree.proofs.Shared.{last_out, step_out}
use Rattle.page_model.specs.Forest.{keys}
use Rattle.page_tree.specs.declared.sub.Sub.{Sub}
use Rattle.page_tree.specs.Subs.{side_by_side, sub_tree}
use Rattle.page_ops.proofs.Subtrees.{keys_cons, keys_element, keys_text}
use Rattle.page_ops.proofs.numbers.+put_numbers.Goals as goal

pub loop-sub-preserved : goal.loop-sub-preserved
loop-sub-preserved t c =
    let i = c.loop-sub.sub-index in
    let subs = c.deref-sub-items.result.now in
    let s = c.sub-item.result in
    let all : List Sub → List ℕ = λ ss. keys (side_by_side (map sub_tree ss)) in
    let e : drop i subs ≡ s ∷ drop (i + 1) subs = drop_more subs i s c.loop-sub-test.true ∙ ap (λ z. z ∷ drop (i + 1) subs) (sym c.sub-item.is) in
    let f : all (drop i subs) ≡ keys (sub_tree s) ++ all (drop (i + 1) subs) = ap all e ∙ keys_cons (sub_tree s) (map sub_tree (drop (i + 1) subs)) in
    step_out c.loop-sub.out.items c.put_numbers.new.out.items (keys (sub_tree s)) (all (drop (i + 1) subs)) (all (drop i subs)) _ c.in_ok-put_numbers-in-Element.ensures f c.loop-sub.invariant

pub returns-in_ok-push-in-Text : goal.returns-in_ok-push-in-Text
returns-in_ok-push-in-Text t c = c.in_ok-push-in-Text.ensures.items ∙ ap (λ zs. c.args.out.now.items ++ zs) (sym (ap (λ s. keys (sub_tree s)) c.in-Text.is ∙ keys_text c.in-Text.number c.in-Text.field-1))

pub returns-after-loop-sub : goal.returns-after-loop-sub
returns-after-loop-sub t c =
    let subs = c.deref-sub-items.result.now in
    let all : List Sub → List ℕ = λ ss. keys (side_by_side (map sub_tree ss)) in
    let e : drop c.loop-sub.sub-index subs ≡ [] = drop_all c.loop-sub.sub-index subs c.loop-sub-test.false in
    let a = last_out c.loop-sub.out.items (all (drop c.loop-sub.sub-index subs)) (c.push-in-Element.new.self.items ++ all subs) (ap all e) c.loop-sub.invariant in
    let k = ap (λ s. keys (sub_tree s)) c.in-Element.is ∙ keys_element c.in-Element.number c.in-Element.field-1 c.in-Element.field-2 c.in-Element.subs in
    a ∙ (ap (λ zs. zs ++ all subs) c.in_ok-push-in-Element.ensures.items
    ∙ (append_assoc c.args.out.now.items (c.in-Element.number ∷ []) (all subs)
    ∙ ap (λ zs. c.args.out.now.items ++ zs) (ap (λ ss. c.in-Element.number ∷ all ss) c.deref-sub-items.ensures.value ∙ sym k)))
