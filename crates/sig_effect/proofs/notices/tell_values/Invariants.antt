use Rattle.std.proofs.Common.{◌≡◌, ◌++◌, take}
use Rattle.sig_effect.specs.Results.{values_told}
use Rattle.sig_effect.proofs.notices.tell_values.Given as goal

abbrev pub invariant-loop-id : goal.invariant-loop-id
invariant-loop-id l = l.events.items ≡ l.fn.events.items ++ values_told (take l.id-index l.cells)
