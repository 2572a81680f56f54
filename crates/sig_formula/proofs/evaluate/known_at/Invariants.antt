use Rattle.std.proofs.Common.{◌≡◌, drop}
use Rattle.sig_formula.specs.Evaluation.{known_at}
use Rattle.sig_formula.proofs.evaluate.known_at.Given as goal

abbrev pub invariant-loop-entry : goal.invariant-loop-entry
invariant-loop-entry l = known_at l.slot (drop l.entry-index l.known) ≡ known_at l.slot l.known
