use Rattle.std.proofs.Common.{◌≡◌, List, drop, map}
use Rattle.sig_host.specs.Hosts.{HostPlace}
use Rattle.effect_world.specs.Wholes.{whole_of}
use Rattle.live_model.specs.Names.{first_within}
use Rattle.live_uses.specs.Views.{use_of}
use Rattle.live_names.proofs.names.Names.first_within.Given as goal

-- no name so far is refused, so the first refusal is that of the rest
abbrev pub invariant-loop-used : goal.invariant-loop-used
invariant-loop-used l = (asked : List HostPlace) → first_within (whole_of asked l.world) l.self l.own (map use_of l.uses)
    ≡ first_within (whole_of asked l.world) l.self l.own (map use_of (drop l.used-index l.uses))
