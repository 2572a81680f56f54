use Rattle.std.proofs.Common.{◌≡◌, take}
use Rattle.live_core.proofs.creation.copied.Given as goal

-- the copies so far
abbrev pub invariant-loop-name : goal.invariant-loop-name
invariant-loop-name l = l.out.items ≡ take l.name-index l.names
