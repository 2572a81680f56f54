use Rattle.std.proofs.Common.{◌≡◌, map, take}
use Rattle.live_uses.specs.Views.{use_of}
use Rattle.live_uses.proofs.Wholes.{used_by}
use Rattle.live_uses.proofs.bodies.+uses_of_body.Given as goal

-- what the nested effects so far use
abbrev pub invariant-loop-inner : goal.invariant-loop-inner
invariant-loop-inner l = map (λ v. map use_of v.items) l.effects.items ≡ map used_by (take l.inner-index l.inner-items)
