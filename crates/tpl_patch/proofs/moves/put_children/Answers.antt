use Rattle.std.proofs.Common.{ap, map}
use Rattle.page_ops.specs.Ops.{op_of}
use Rattle.tpl_scratch.specs.Pages.{Numbered}
use Rattle.tpl_model.specs.ShownNodes.Shapes.{child_of}
use Rattle.tpl_patch.proofs.Operations.{node_moved, side}
use Rattle.tpl_patch.proofs.moves.put_children.Goals as goal

pub returns-clause-next : goal.returns-clause-next
returns-clause-next c = ap (λ (n : Numbered). n.next) c.in_ok-row.ensures.coming

pub returns-clause-ops : goal.returns-clause-ops
returns-clause-ops c = λ row fits.
    node_moved c.args.tree.now c.args.parent c.args.next (map child_of c.args.children.now) row c.children.result.now c.in_ok-row.row.numbers.items
    c.in_ok-steps.steps.items (side c.in_ok-row.row.coming.subs.items) (map op_of c.args.ops.now.items) (map op_of c.put_steps.new.ops.items) fits
    c.children.ensures c.in_ok-row.ensures.numbers (rw c.deref.ensures.value at c.in_ok-steps.ensures.steps) (ap (λ (n : Numbered). n.nodes) c.in_ok-row.ensures.coming)
    (rw (c.deref-2.ensures.value, c.deref-3.ensures.value) at c.in_ok-put_steps.ensures)
