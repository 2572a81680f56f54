use Rattle.std.proofs.Common.{◌≡◌, ◌∷◌, ◌+◌, sym, ap, subst, ◌∙◌, map, drop}
use Rattle.std.proofs.lemmas.List.{drop_more, drop_all}
use Rattle.page_model.specs.Edits.{siblings}
use Rattle.page_model.specs.Forest.{kids}
use Rattle.page_ops.specs.Ops.{op_of}
use Rattle.tpl_model.specs.ShownNodes.Shapes.{child_of, mark_of}
use Rattle.tpl_patch.specs.Moves.{AreSound, Fits, number_after}
use Rattle.tpl_patch.proofs.Operations.{all_moved, next_sound, none_moved, one_moved}
use Rattle.tpl_patch.proofs.moves.put_moves.Goals as goal

pub loop-mark-init : goal.loop-mark-init
loop-mark-init c =
    none_moved c.args.tree.now (map mark_of c.args.marks.now) c.args.next (map op_of c.args.ops.now.items) c.requires

pub put_children-requires : goal.put_children-requires
put_children-requires c =
    let i = c.loop-mark.mark-index in
    let xs = c.args.marks.now in
    let x = c.mark-item.result in
    let rest : drop i xs ≡ x ∷ drop (i + 1) xs = drop_more xs i x c.loop-mark-test.true ∙ ap (λ z. z ∷ drop (i + 1) xs) (sym c.mark-item.is) in
    subst (λ z. AreSound (map child_of z)) (sym c.deref.ensures.value)
    (next_sound c.args.tree.now (map mark_of xs) (map mark_of (drop i xs)) (map mark_of (drop (i + 1) xs)) (mark_of x)
    c.args.next c.loop-mark.number (map op_of c.args.ops.now.items) (map op_of c.loop-mark.ops.items) (ap (map mark_of) rest) c.loop-mark.invariant)

pub loop-mark-preserved : goal.loop-mark-preserved
loop-mark-preserved c =
    let i = c.loop-mark.mark-index in
    let xs = c.args.marks.now in
    let x = c.mark-item.result in
    let rest : drop i xs ≡ x ∷ drop (i + 1) xs = drop_more xs i x c.loop-mark-test.true ∙ ap (λ z. z ∷ drop (i + 1) xs) (sym c.mark-item.is) in
    one_moved c.args.tree.now (map mark_of xs) (map mark_of (drop i xs)) (map mark_of (drop (i + 1) xs)) (mark_of x)
    c.args.next c.loop-mark.number c.in_ok-number.number (map op_of c.args.ops.now.items) (map op_of c.loop-mark.ops.items) (map op_of c.put_children.new.ops.items)
    (ap (map mark_of) rest) (c.in_ok-number.ensures.next ∙ ap (λ z. number_after c.loop-mark.number (map child_of z)) c.deref.ensures.value)
    (λ row fits. c.in_ok-number.ensures.ops row (subst (λ z. Fits (siblings (kids x.number c.args.tree.now)) c.loop-mark.number (map child_of z) row) (sym c.deref.ensures.value) fits))
    c.loop-mark.invariant

pub returns-clause-next : goal.returns-clause-next
returns-clause-next c =
    (all_moved c.args.tree.now (map mark_of c.args.marks.now) (map mark_of (drop c.loop-mark.mark-index c.args.marks.now))
    c.args.next c.loop-mark.number (map op_of c.args.ops.now.items) (map op_of c.loop-mark.ops.items)
    (ap (map mark_of) (drop_all c.loop-mark.mark-index c.args.marks.now c.loop-mark-test.false)) c.loop-mark.invariant).0

pub returns-clause-ops : goal.returns-clause-ops
returns-clause-ops c =
    (all_moved c.args.tree.now (map mark_of c.args.marks.now) (map mark_of (drop c.loop-mark.mark-index c.args.marks.now))
    c.args.next c.loop-mark.number (map op_of c.args.ops.now.items) (map op_of c.loop-mark.ops.items)
    (ap (map mark_of) (drop_all c.loop-mark.mark-index c.args.marks.now c.loop-mark-test.false)) c.loop-mark.invariant).1
