use Rattle.std.proofs.Common.{◌≡◌, drop}
use Rattle.signal_model.specs.Recipes.{is_known}
use Rattle.signal_model.proofs.answers.is_known.Given as goal

abbrev pub invariant-loop-one : goal.invariant-loop-one
invariant-loop-one l = is_known l.slot (drop l.one-index l.known) ≡ is_known l.slot l.known
