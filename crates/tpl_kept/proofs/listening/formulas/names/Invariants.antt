use Rattle.std.proofs.Common.{◌≡◌, take}
use Rattle.signal_model.specs.Sound.{names_of}
use Rattle.tpl_kept.proofs.listening.formulas.names.Given as goal

-- the names so far
abbrev pub invariant-loop-read : goal.invariant-loop-read
invariant-loop-read l = l.ids.items ≡ names_of (take l.read-index l.reads)
