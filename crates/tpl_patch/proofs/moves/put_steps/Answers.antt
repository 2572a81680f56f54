use Rattle.std.proofs.Common.{◌++◌, ◌+◌, ap, arith, ◌∙◌, drop, map, slice_index_or}
use Rattle.std.proofs.lemmas.List.{drop_all, drop_more}
use Rattle.page_ops.specs.Ops.{op_of}
use Rattle.tpl_patch.specs.Spelled.{spelled}
use Rattle.tpl_patch.proofs.Operations.{all_spelled, one_spelled, side, step_there}
use Rattle.tpl_patch.proofs.moves.put_steps.Goals as goal

pub step_at-requires : goal.step_at-requires
step_at-requires c = omega (arith, c.requires, c.loop-place-test.true)

pub loop-place-preserved : goal.loop-place-preserved
loop-place-preserved c =
    let i = c.loop-place.place in
    let ns = c.args.numbers.now in
    let steps = c.args.steps.now in
    one_spelled c.args.parent i (slice_index_or ns i 0) c.step_at.result (drop i ns) (drop (i + 1) ns) (drop i steps) (drop (i + 1) steps)
    (side c.loop-place.waiting.items) (side c.put_step.new.waiting.items) (map op_of c.loop-place.ops.items) (map op_of c.put_step.new.ops.items) _
    (drop_more ns i 0 c.loop-place-test.true) (step_there steps i c.step_at.result (omega (arith, c.requires, c.loop-place-test.true)) c.step_at.ensures)
    c.in_ok-put_step.ensures c.loop-place.invariant

pub returns : goal.returns
returns c =
    let i = c.loop-place.place in
    let os = map op_of c.args.ops.now.items in
    all_spelled c.args.parent i (drop i c.args.numbers.now) (drop i c.args.steps.now) (side c.loop-place.waiting.items) (map op_of c.loop-place.ops.items) _
    (drop_all i c.args.numbers.now c.loop-place-test.false) c.loop-place.invariant
    ∙ ap (λ z. os ++ spelled c.args.parent 0 c.args.numbers.now c.args.steps.now (side z)) c.from_vec-waiting.ensures.items
