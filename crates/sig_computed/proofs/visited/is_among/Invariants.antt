use Rattle.std.proofs.Common.{◌≡◌, drop}
use Rattle.signal_model.specs.Signals.{is_in}
use Rattle.sig_computed.proofs.visited.is_among.Given as goal

abbrev pub invariant-loop-one : goal.invariant-loop-one
invariant-loop-one l = is_in l.id (drop l.one-index l.ids) ≡ is_in l.id l.ids
