use Rattle.std.proofs.Common.{◌≡◌, [], map, arith, sym, ap, ◌∙◌}
use Rattle.std.proofs.lemmas.Bool.{eqb-true}
use Rattle.std.proofs.lemmas.List.{nil_from_length}
use Rattle.page_ops.specs.Ops.{op_of}
use Rattle.tpl_model.specs.ShownNodes.Addresses.{address_of}
use Rattle.tpl_model.specs.ShownNodes.Shapes.{mark_of}
use Rattle.tpl_drawn.specs.Addresses.{coming_below}
use Rattle.tpl_patch.specs.Moves.{number_behind}
use Rattle.tpl_live.specs.Plans.{ops_towards}
use Rattle.tpl_live.proofs.plan.operations.Goals as goal

pub returns-then-is_empty-clause-next : goal.returns-then-is_empty-clause-next
returns-then-is_empty-clause-next c =
    let count = eqb-true _ 0 (sym c.if-is_empty.ensures) in
    let none : c.args.touched.items ≡ [] = nil_from_length c.args.touched.items (omega (arith, count)) in
    c.in_ok-plan.ensures.next ∙ sym (ap (λ z. number_behind c.args.next (map mark_of z)) none)

pub returns-then-is_empty-clause-coming : goal.returns-then-is_empty-clause-coming
returns-then-is_empty-clause-coming c =
    let count = eqb-true _ 0 (sym c.if-is_empty.ensures) in
    let none : c.args.touched.items ≡ [] = nil_from_length c.args.touched.items (omega (arith, count)) in
    ap (map address_of) c.in_ok-plan.ensures.coming ∙ sym (ap (λ z. coming_below (map mark_of z)) none)

pub returns-then-is_empty-clause-ops : goal.returns-then-is_empty-clause-ops
returns-then-is_empty-clause-ops c = λ after fit.
    let count = eqb-true _ 0 (sym c.if-is_empty.ensures) in
    let none : c.args.touched.items ≡ [] = nil_from_length c.args.touched.items (omega (arith, count)) in
    c.in_ok-plan.ensures.ops ∙ sym (ap (λ z. ops_towards c.args.tree.now after (map mark_of z) (map mark_of c.args.restated.now)) none)
