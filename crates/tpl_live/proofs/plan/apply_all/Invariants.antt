use Rattle.std.proofs.Common.{drop, map}
use Rattle.page_model.specs.Replay.{replay}
use Rattle.page_ops.specs.Ops.{op_of}
use Rattle.tpl_live.proofs.Planned.{ToDo}
use Rattle.tpl_live.proofs.plan.apply_all.Given as goal

-- what is left to do leads where all leads
abbrev pub invariant-loop-op : goal.invariant-loop-op
invariant-loop-op l = ToDo (map op_of (drop l.op-index l.ops)) l.tree (replay (map op_of l.ops) l.fn.tree)
