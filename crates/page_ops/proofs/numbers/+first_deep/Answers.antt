use Rattle.std.proofs.Common.{◌≡◌, ◌+◌, ℕ, suc, List, [], ◌∷◌, Option, Some, None, sym, ap, ◌∙◌, refl, arith, drop, map, ltb, false}
use Rattle.std.proofs.lemmas.Bool.{le-ltb}
use Rattle.std.proofs.lemmas.List.{drop_more, drop_all}
use Rattle.page_model.specs.Replay as replay
use Rattle.page_model.specs.Replay.{or_else}
use Rattle.page_tree.specs.declared.sub.Sub.{Sub}
use Rattle.page_tree.specs.Subs.{side_by_side, sub_tree}
use Rattle.page_ops.proofs.Subtrees.{deep_cons, deep_element, deep_text}
use Rattle.page_ops.proofs.numbers.+first_deep.Goals as goal

pub loop-sub-preserved : goal.loop-sub-preserved
loop-sub-preserved t c =
    let i = c.loop-sub.sub-index in
    let subs = c.deref-sub-items.result.now in
    let s = c.sub-item.result in
    let deep : List Sub → Option ℕ = λ ss. replay.first_deep (suc c.args.steps) (side_by_side (map sub_tree ss)) in
    let e : drop i subs ≡ s ∷ drop (i + 1) subs = drop_more subs i s c.loop-sub-test.true ∙ ap (λ z. z ∷ drop (i + 1) subs) (sym c.sub-item.is) in
    let one_more : c.args.steps + 1 ≡ suc c.args.steps = omega arith in
    let h : None ≡ replay.first_deep (suc c.args.steps) (sub_tree s) = c.in_default.ensures ∙ ap (λ d. replay.first_deep d (sub_tree s)) one_more in
    let f : deep (drop i subs) ≡ or_else (replay.first_deep (suc c.args.steps) (sub_tree s)) (deep (drop (i + 1) subs)) = ap deep e ∙ deep_cons (suc c.args.steps) (sub_tree s) (map sub_tree (drop (i + 1) subs)) in
    ap (λ o. or_else o (deep (drop (i + 1) subs))) h ∙ (sym f ∙ c.loop-sub.invariant)

pub returns-in-Some : goal.returns-in-Some
returns-in-Some t c =
    let i = c.loop-sub.sub-index in
    let subs = c.deref-sub-items.result.now in
    let s = c.sub-item.result in
    let deep : List Sub → Option ℕ = λ ss. replay.first_deep (suc c.args.steps) (side_by_side (map sub_tree ss)) in
    let e : drop i subs ≡ s ∷ drop (i + 1) subs = drop_more subs i s c.loop-sub-test.true ∙ ap (λ z. z ∷ drop (i + 1) subs) (sym c.sub-item.is) in
    let one_more : c.args.steps + 1 ≡ suc c.args.steps = omega arith in
    let h : Some c.in-Some.number ≡ replay.first_deep (suc c.args.steps) (sub_tree s) = c.in-Some.ensures ∙ ap (λ d. replay.first_deep d (sub_tree s)) one_more in
    let f : deep (drop i subs) ≡ or_else (replay.first_deep (suc c.args.steps) (sub_tree s)) (deep (drop (i + 1) subs)) = ap deep e ∙ deep_cons (suc c.args.steps) (sub_tree s) (map sub_tree (drop (i + 1) subs)) in
    let all : Some c.in-Some.number ≡ deep subs = ap (λ o. or_else o (deep (drop (i + 1) subs))) h ∙ (sym f ∙ c.loop-sub.invariant) in
    let low : ltb 32 c.args.steps ≡ false = le-ltb 32 c.args.steps c.if-steps-gt32.false in
    let whole = ap (λ z. replay.first_deep c.args.steps (sub_tree z)) c.in-Element.is ∙ deep_element c.args.steps c.in-Element.field-0 c.in-Element.field-1 c.in-Element.field-2 c.in-Element.subs in
    all ∙ (ap deep c.deref-sub-items.ensures.value ∙ sym (whole ∙ (rw low refl)))

pub returns-in-Text : goal.returns-in-Text
returns-in-Text t c =
    let low : ltb 32 c.args.steps ≡ false = le-ltb 32 c.args.steps c.if-steps-gt32.false in
    sym (ap (λ z. replay.first_deep c.args.steps (sub_tree z)) c.in-Text.is ∙ (deep_text c.args.steps c.in-Text.field-0 c.in-Text.field-1 ∙ (rw low refl)))

pub returns-after-loop-sub : goal.returns-after-loop-sub
returns-after-loop-sub t c =
    let subs = c.deref-sub-items.result.now in
    let deep : List Sub → Option ℕ = λ ss. replay.first_deep (suc c.args.steps) (side_by_side (map sub_tree ss)) in
    let e : drop c.loop-sub.sub-index subs ≡ [] = drop_all c.loop-sub.sub-index subs c.loop-sub-test.false in
    let all : None ≡ deep subs = sym (ap deep e) ∙ c.loop-sub.invariant in
    let low : ltb 32 c.args.steps ≡ false = le-ltb 32 c.args.steps c.if-steps-gt32.false in
    let whole = ap (λ z. replay.first_deep c.args.steps (sub_tree z)) c.in-Element.is ∙ deep_element c.args.steps c.in-Element.field-0 c.in-Element.field-1 c.in-Element.field-2 c.in-Element.subs in
    all ∙ (ap deep c.deref-sub-items.ensures.value ∙ sym (whole ∙ (rw low refl)))
