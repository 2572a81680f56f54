use Rattle.std.proofs.Common.{◌≡◌, ◌+◌, ◌++◌, ℕ, List, [], ◌∷◌, sym, ap, ◌∙◌, drop, map}
use Rattle.std.proofs.lemmas.List.{drop_more}
use Rattle.page_model.specs.Edits.{siblings}
use Rattle.page_tree.specs.declared.sub.Sub.{Sub}
use Rattle.page_tree.specs.Subs.{side_by_side, sub_tree}
use Rattle.page_tree.proofs.Lists.{step_out}
use Rattle.page_tree.proofs.Subtrees.{numbers_cons}
use Rattle.page_tree.proofs.sub.numbers_of.Goals as goal

pub loop-sub-preserved : goal.loop-sub-preserved
loop-sub-preserved c =
    let i = c.loop-sub.sub-index in
    let subs = c.args.subs.now in
    let s = c.sub-item.result in
    let n = c.number.result in
    let numbers : List Sub → List ℕ = λ ss. siblings (side_by_side (map sub_tree ss)) in
    let e : drop i subs ≡ s ∷ drop (i + 1) subs = drop_more subs i s c.loop-sub-test.true ∙ ap (λ z. z ∷ drop (i + 1) subs) (sym c.sub-item.is) in
    let f : numbers (drop i subs) ≡ (n ∷ []) ++ numbers (drop (i + 1) subs) = ap numbers e ∙ numbers_cons n (sub_tree s) (map sub_tree (drop (i + 1) subs)) c.number.ensures.alone in
    step_out c.loop-sub.numbers.items c.push.new.self.items (n ∷ []) (numbers (drop (i + 1) subs)) (numbers (drop i subs)) (numbers subs) c.in_ok-push.ensures.items f c.loop-sub.invariant
