use Rattle.std.proofs.Common.{◌≡◌, take, map}
use Rattle.sig_untrack.specs.Stated.{rewiring}
use Rattle.live_model.specs.Names.{number_of}
use Rattle.live_linking.proofs.bodies.rewires_of.Given as goal

-- those of the rewirings so far
abbrev pub invariant-loop-rewire : goal.invariant-loop-rewire
invariant-loop-rewire l =
    map (λ s. s.ids.items) l.found.items ≡ map (λ r. map (number_of l.names) r.names) (map rewiring (take l.rewire-index l.rewires))
