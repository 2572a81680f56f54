use Rattle.std.proofs.Common.{◌≡◌, ◌++◌, take, map}
use Rattle.live_uses.specs.Views.{use_of}
use Rattle.live_uses.proofs.bodies.put_all.Given as goal

-- those so far
abbrev pub invariant-loop-used : goal.invariant-loop-used
invariant-loop-used l = map use_of l.uses.items ≡ map use_of l.fn.uses.items ++ map use_of (take l.used-index l.more)
