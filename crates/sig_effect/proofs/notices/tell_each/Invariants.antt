use Rattle.std.proofs.Common.{◌≡◌, ◌++◌, map, take}
use Rattle.sig_effect.specs.declared.events.Event.TheVariants as event
use Rattle.sig_effect.specs.Results.{ids_told}
use Rattle.sig_effect.proofs.notices.tell_each.Given as goal

abbrev pub invariant-loop-one : goal.invariant-loop-one
invariant-loop-one l = l.events.items ≡ l.fn.events.items ++ map event.Notify (ids_told (take l.one-index l.told))
