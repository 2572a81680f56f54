use Rattle.std.proofs.Common.{◌≡◌, ◌+◌, ◌++◌, [], ◌∷◌, length, map, refl, sym, ap, ◌∙◌, arith, append-nil}
use Rattle.std.proofs.lemmas.List.{map-append}
use Rattle.page_tree.proofs.Shared.{no_items}
use Rattle.page_ops.specs.Ops.{op_of}
use Rattle.page_tree.specs.Subs.{insertion, side_by_side, sub_tree}
use Rattle.tpl_live.specs.Pages.{inserts}
use Rattle.tpl_live.proofs.Inserted.{one_longer, one_written}
use Rattle.tpl_live.proofs.first.insertions.Goals as goal

pub loop-sub-init : goal.loop-sub-init
loop-sub-init c = rw c.new-ops.ensures.items refl

pub loop-sub-preserved : goal.loop-sub-preserved
loop-sub-preserved c =
    let rest = side_by_side (map sub_tree c.next.new.self.rest.items) in
    let before = c.loop-sub.ops.items in
    let now = c.push.new.self.items in
    let s = sub_tree c.in-Some.sub in
    let o = insertion 0 (length before) s in
    let counted = c.len-place.ensures in
    let at : c.len-place.result ≡ length before = omega (arith, counted) in
    let e : c.loop-sub.sub-iterator.rest.items ≡ c.in-Some.sub ∷ c.next.new.self.rest.items = c.in-Some.ensures.steps.0 in
    let put : map op_of now ≡ map op_of before ++ insertion 0 c.len-place.result s ∷ [] = ap (map op_of) c.in_ok-push.ensures.items ∙ map-append op_of before _ in
    let one : map op_of now ≡ map op_of before ++ o ∷ [] = put ∙ ap (λ z. map op_of before ++ insertion 0 z s ∷ []) at in
    let count : length before + 1 ≡ length now = one_longer before now _ c.in_ok-push.ensures.items in
    let last = ap (λ z. map op_of before ++ inserts (length before) (side_by_side (map sub_tree z))) (sym e) ∙ c.loop-sub.invariant in
    ap (λ z. map op_of now ++ inserts z rest) (sym count)
    ∙ one_written (map op_of before) (map op_of now) o (length before) c.number.result s rest _ one refl c.number.ensures.alone last

pub returns : goal.returns
returns c =
    let ops = c.loop-sub.ops.items in
    let rest = c.loop-sub.sub-iterator.rest in
    let none : rest.items ≡ [] = no_items rest.items rest.len rest.ok.0 c.in-None.ensures.steps.0 in
    let given : c.into_iter-sub-iterator.result.rest.items ≡ c.args.subs.items = c.into_iter-sub-iterator.ensures.into_iter_gives.0 in
    sym (append-nil (map op_of ops))
    ∙ (ap (λ z. map op_of ops ++ inserts (length ops) (side_by_side (map sub_tree z))) (sym none)
    ∙ (c.loop-sub.invariant ∙ ap (λ z. inserts 0 (side_by_side (map sub_tree z))) given))
