use Rattle.std.proofs.Common.{◌≡◌, take, map}
use Rattle.live_model.specs.Names.{number_of}
use Rattle.live_linking.proofs.sources.signals_of.Given as goal

-- the numbers of the names so far
abbrev pub invariant-loop-name : goal.invariant-loop-name
invariant-loop-name l = l.signals.items ≡ map (number_of l.names) (take l.name-index l.used)
