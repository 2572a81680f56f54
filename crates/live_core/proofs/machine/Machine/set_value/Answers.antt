use Rattle.std.proofs.Common.{◌∙◌, sym}
use Rattle.live_core.proofs.Rightly.{none_there}
use Rattle.live_core.proofs.machine.Machine.set_value.Goals as goal

pub set_batched-requires-clause-batched : goal.set_batched-requires-clause-batched
set_batched-requires-clause-batched g c = sym c.is_some.ensures ∙ c.if-is_some.true

pub set_alone-requires-clause-alone : goal.set_alone-requires-clause-alone
set_alone-requires-clause-alone g c = none_there _ (sym c.is_some.ensures ∙ c.if-is_some.false)
