use Rattle.std.proofs.Common.{◌≡◌, ◌++◌, drop, map}
use Rattle.page_ops.specs.Ops.{op_of}
use Rattle.tpl_patch.specs.Spelled.{spelled}
use Rattle.tpl_patch.proofs.Operations.{side}
use Rattle.tpl_patch.proofs.moves.put_steps.Given as goal

-- the operations so far, and the steps that are left
abbrev pub invariant-loop-place : goal.invariant-loop-place
invariant-loop-place l =
    map op_of l.ops.items ++ spelled l.parent l.place (drop l.place l.numbers) (drop l.place l.steps) (side l.waiting.items)
    ≡ map op_of l.initial.ops.items ++ spelled l.parent 0 l.numbers l.steps (side l.initial.waiting.items)
