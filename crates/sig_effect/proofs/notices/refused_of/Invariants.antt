use Rattle.std.proofs.Common.{◌≡◌, take}
use Rattle.sig_effect.specs.Results.{ids_refused}
use Rattle.sig_effect.proofs.notices.refused_of.Given as goal

abbrev pub invariant-loop-one : goal.invariant-loop-one
invariant-loop-one l = l.refused.items ≡ ids_refused (take l.one-index l.told)
