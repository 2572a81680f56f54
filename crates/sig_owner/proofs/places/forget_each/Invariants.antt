use Rattle.std.proofs.Common.{◌≡◌, None, cond, take}
use Rattle.sig_owner.specs.declared.thing.Thing.{Thing}
use Rattle.sig_owner.specs.Keys.{are_gone_in, placed}
use Rattle.sig_owner.proofs.places.forget_each.Given as goal

abbrev pub invariant-loop-undoing : goal.invariant-loop-undoing
invariant-loop-undoing l = (t : Thing) → placed l.places t ≡ cond (are_gone_in (take l.undoing-index l.undoings) t) None (placed l.fn.places t)
