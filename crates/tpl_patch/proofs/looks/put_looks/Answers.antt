use Rattle.std.proofs.Common.{◌≡◌, ◌∷◌, ◌+◌, ◌++◌, [], sym, ap, ◌∙◌, append-nil, map, drop}
use Rattle.std.specs.List.{flat_map}
use Rattle.std.proofs.lemmas.List.{drop_more, drop_all}
use Rattle.page_ops.specs.Ops.{op_of}
use Rattle.tpl_patch.specs.Attributes.{mark_told}
use Rattle.tpl_patch.proofs.Said.{node_told}
use Rattle.tpl_model.specs.ShownNodes.Shapes.{mark_of}
use Rattle.tpl_patch.proofs.looks.put_looks.Goals as goal

pub loop-mark-preserved : goal.loop-mark-preserved
loop-mark-preserved c =
    let i = c.loop-mark.mark-index in
    let xs = c.args.marks.now in
    let x = c.mark-item.result in
    let rest : drop i xs ≡ x ∷ drop (i + 1) xs = drop_more xs i x c.loop-mark-test.true ∙ ap (λ z. z ∷ drop (i + 1) xs) (sym c.mark-item.is) in
    node_told (mark_told c.args.tree.now) (mark_of x) (map mark_of (drop i xs)) (map mark_of (drop (i + 1) xs))
    (map op_of c.args.ops.now.items ++ flat_map (mark_told c.args.tree.now) (map mark_of xs)) (map op_of c.loop-mark.ops.items) (map op_of c.put_marked.new.ops.items)
    (ap (map mark_of) rest) c.in_ok-put_marked.ensures c.loop-mark.invariant

pub returns : goal.returns
returns c =
    let done : drop c.loop-mark.mark-index c.args.marks.now ≡ [] = drop_all c.loop-mark.mark-index c.args.marks.now c.loop-mark-test.false in
    sym (append-nil (map op_of c.loop-mark.ops.items))
    ∙ (ap (λ z. map op_of c.loop-mark.ops.items ++ flat_map (mark_told c.args.tree.now) (map mark_of z)) (sym done) ∙ c.loop-mark.invariant)
