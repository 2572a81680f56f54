use Rattle.std.proofs.Common.{◌≡◌, ◌++◌, map, drop}
use Rattle.page_model.specs.Replay.{OpRemove}
use Rattle.page_ops.specs.Ops.{op_of}
use Rattle.tpl_patch.proofs.leaving.removals_of.Given as goal

abbrev pub invariant-loop-number : goal.invariant-loop-number
invariant-loop-number l = map op_of l.ops.items ++ map OpRemove (drop l.number-index l.numbers) ≡ map OpRemove l.numbers
