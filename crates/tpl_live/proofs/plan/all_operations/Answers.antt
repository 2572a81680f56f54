use Rattle.std.proofs.Common.{map, refl, ◌∙◌}
use Rattle.std.specs.List.{flat_map}
use Rattle.page_model.specs.Edits.{ascending, listed}
use Rattle.page_model.specs.Replay.{OpRemove}
use Rattle.page_ops.specs.Ops.{op_of}
use Rattle.tpl_model.specs.NextPage.Lookups.{gone_numbers}
use Rattle.tpl_model.specs.ShownNodes.Shapes.{mark_of}
use Rattle.tpl_live.proofs.Planned.{planned}
use Rattle.tpl_live.proofs.plan.all_operations.Goals as goal

pub returns-clause-ops : goal.returns-clause-ops
returns-clause-ops c = λ after fit.
    let kept = c.in_ok-kept.kept.items in
    let tree = c.args.tree.now in
    planned tree after (map mark_of c.args.touched.items) (map mark_of c.args.restated.now) (λ n. listed n kept)
    c.in_ok-parents.parents.items kept (map op_of c.in_ok-ops.ops.items) (map op_of c.put_moves.new.ops.items) (map op_of c.put_looks.new.ops.items)
    (λ n. refl) (rw c.deref.ensures.value at c.in_ok-parents.ensures) (rw c.deref-2.ensures.value at c.in_ok-kept.ensures)
    (c.in_ok-ops.ensures
    ∙ (λ i. map OpRemove (ascending (flat_map (gone_numbers (λ n. listed n (c.deref-3.ensures.value i)) tree) (c.deref-4.ensures.value i)))))
    ((rw c.deref-5.ensures.value at c.in_ok-behind.ensures.ops) after fit) c.in_ok-put_looks.ensures
