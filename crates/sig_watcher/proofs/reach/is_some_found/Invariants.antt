use Rattle.std.proofs.Common.{take}
use Rattle.sig_watcher.specs.Reach.{NoneFound}
use Rattle.sig_watcher.proofs.reach.is_some_found.Given as goal

abbrev pub invariant-loop-name : goal.invariant-loop-name
invariant-loop-name l = NoneFound l.graph l.ids l.reached (take l.name-index l.names)
