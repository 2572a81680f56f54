use Rattle.std.proofs.Common.{◌≡◌, ◌++◌, map}
use Rattle.sig_effect.specs.declared.events.Event.TheVariants as event
use Rattle.sig_effect.proofs.notices.tell_runs.Given as goal

abbrev pub invariant-loop-note : goal.invariant-loop-note
invariant-loop-note l = l.events.items ≡ l.fn.events.items ++ map event.Run l.yielded
