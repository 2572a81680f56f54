use Rattle.std.proofs.Common.{◌≡◌, ◌++◌, take, map}
use Rattle.live_model.specs.declared.names.Need.TheVariants as need
use Rattle.live_uses.specs.Views.{use_of}
use Rattle.live_uses.proofs.uses.put_signals.Given as goal

-- the names so far
abbrev pub invariant-loop-name : goal.invariant-loop-name
invariant-loop-name l = map use_of l.uses.items ≡ map use_of l.fn.uses.items ++ map (λ n. (n, need.Signal)) (take l.name-index l.names)
