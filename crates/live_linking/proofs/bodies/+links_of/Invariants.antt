use Rattle.std.proofs.Common.{◌≡◌, map, take}
use Rattle.sig_untrack.specs.Stated.{Bodies, bodies_before}
use Rattle.effect_tables.specs.Bodies.{all_before, links_before}
use Rattle.live_model.specs.Links.{links_of}
use Rattle.live_linking.proofs.bodies.+links_of.Given as goal

-- those of the nested effects so far
abbrev pub invariant-loop-nested : goal.invariant-loop-nested
invariant-loop-nested l =
    (others : Bodies) → all_before (map links_before l.inner.items) (links_of l.names l.own others)
    ≡ links_of l.names l.own (bodies_before (take l.nested-index l.nested-items) others)
