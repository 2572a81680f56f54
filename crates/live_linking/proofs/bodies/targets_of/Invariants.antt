use Rattle.std.proofs.Common.{◌≡◌, take, map}
use Rattle.live_model.specs.Links.{target_named}
use Rattle.live_linking.proofs.bodies.targets_of.Given as goal

-- what the names so far stand for
abbrev pub invariant-loop-name : goal.invariant-loop-name
invariant-loop-name l = l.found.items ≡ map (target_named l.names l.own) (take l.name-index l.targets)
