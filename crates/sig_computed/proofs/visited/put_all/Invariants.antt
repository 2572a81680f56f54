use Rattle.std.proofs.Common.{◌≡◌, ℕ, ◌++◌, take}
use Rattle.signal_model.specs.Signals.{is_in}
use Rattle.sig_computed.proofs.visited.put_all.Given as goal

abbrev pub invariant-loop-id : goal.invariant-loop-id
invariant-loop-id l = (m : ℕ) → is_in m l.ids.keys ≡ is_in m (take l.id-index l.late ++ l.fn.ids.keys)
