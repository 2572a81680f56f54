use Rattle.std.proofs.Common.{◌≡◌, drop}
use Rattle.sig_nodes.specs.Nodes.{are_live_bodies}
use Rattle.sig_nodes.proofs.bodies.are_live_at.Given as goal

abbrev pub invariant-loop-id : goal.invariant-loop-id
invariant-loop-id l = are_live_bodies l.nodes.items (drop l.id-index l.ids) ≡ are_live_bodies l.nodes.items l.ids
