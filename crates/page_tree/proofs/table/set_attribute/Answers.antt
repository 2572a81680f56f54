use Rattle.std.proofs.Common.{arith, ap, sym, ◌≤◌, length}
use Rattle.page_model.specs.Replay.{others}
use Rattle.page_tree.specs.Rows.{row_in, row_of, label_of, attributes_of}
use Rattle.page_tree.proofs.table.set_attribute.Goals as goal

pub put_attribute-requires-clause-within : goal.put_attribute-requires-clause-within
put_attribute-requires-clause-within c =
    let h : c.args.place ≤ length (others c.args.name (attributes_of (label_of c.in-Some.node.now.label))) = c.requires (row_of c.in-Some.node.now) (ap row_in (sym c.in-Some.ensures.value)) in
    let h' : c.args.place ≤ length (others c.args.name c.in-Element.attributes.items) = rw c.in-Element.is at h in
    let e = ap (length) c.take_attribute.ensures.items in
    let f = ap (λ xs. length (others c.args.name xs)) c.reserve.ensures.items in
    omega (arith, h', e, f, c.take_attribute.new.attributes.ok.0)
