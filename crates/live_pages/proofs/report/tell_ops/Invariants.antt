use Rattle.std.proofs.Common.{◌≡◌, ◌++◌, map}
use Rattle.page_ops.specs.Ops.{op_of}
use Rattle.live_model.specs.Machine.{ops_told}
use Rattle.live_pages.proofs.report.tell_ops.Given as goal

-- the operations so far are told
abbrev pub invariant-loop-op : goal.invariant-loop-op
invariant-loop-op l = l.told.items ≡ l.fn.told.items ++ ops_told l.name (map op_of l.yielded)
