use Rattle.std.proofs.Common.{take}
use Rattle.sig_computed.specs.Flags.{AreFlagged}
use Rattle.sig_computed.proofs.visited.raised.Given as goal

abbrev pub invariant-loop-id : goal.invariant-loop-id
invariant-loop-id l = AreFlagged l.flags.items (take l.id-index l.late)
