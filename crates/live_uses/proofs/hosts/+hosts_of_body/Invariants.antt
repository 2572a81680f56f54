use Rattle.std.proofs.Common.{◌≡◌, map, take}
use Rattle.live_uses.proofs.Wholes.{hosts_held}
use Rattle.live_uses.proofs.hosts.+hosts_of_body.Given as goal

-- the places in the nested effects so far
abbrev pub invariant-loop-inner : goal.invariant-loop-inner
invariant-loop-inner l = map (λ v. v.items) l.effects.items ≡ map hosts_held (take l.inner-index l.inner-items)
