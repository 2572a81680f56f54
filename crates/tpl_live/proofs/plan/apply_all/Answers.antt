use Rattle.std.proofs.Common.{◌+◌, drop, map, arith, refl, ap}
use Rattle.std.proofs.lemmas.List.{drop_all}
use Rattle.page_model.specs.Replay.{replay}
use Rattle.page_ops.specs.Ops.{op_of}
use Rattle.tpl_live.proofs.Planned.{all_done, left_split, next_done, next_fits}
use Rattle.tpl_live.proofs.plan.apply_all.Goals as goal

pub loop-op-init : goal.loop-op-init
loop-op-init c = record { leads = refl; brings = c.requires.brings }

pub perform-requires : goal.perform-requires
perform-requires c =
    let ops = c.args.ops.now in
    let i = c.loop-op.op-index in
    let next = next_fits (map op_of (drop i ops)) (map op_of (drop (i + 1) ops)) (op_of c.op-item.result) c.loop-op.tree (replay (map op_of ops) c.args.tree.now)
    (left_split op_of ops i c.op-item.result c.loop-op-test.true c.op-item.is) c.loop-op.invariant c.requires.leads in
    record { nodes = next.brings; fits = next.fits }

pub loop-op-preserved : goal.loop-op-preserved
loop-op-preserved c =
    let ops = c.args.ops.now in
    let i = c.loop-op.op-index in
    next_done (map op_of (drop i ops)) (map op_of (drop (i + 1) ops)) (op_of c.op-item.result) c.loop-op.tree c.perform.new.tree (replay (map op_of ops) c.args.tree.now)
    (left_split op_of ops i c.op-item.result c.loop-op-test.true c.op-item.is) c.loop-op.invariant c.in_ok-perform.ensures

pub returns : goal.returns
returns c =
    let ops = c.args.ops.now in
    all_done (map op_of (drop c.loop-op.op-index ops)) c.loop-op.tree (replay (map op_of ops) c.args.tree.now)
    (ap (map op_of) (drop_all c.loop-op.op-index ops (omega arith))) c.loop-op.invariant
