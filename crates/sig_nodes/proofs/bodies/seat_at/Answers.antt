use Rattle.std.proofs.Common.{sym}
use Rattle.sig_nodes.proofs.Edits.{seat_got}
use Rattle.sig_nodes.proofs.bodies.seat_at.Goals as goal

pub returns-in-Some : goal.returns-in-Some
returns-in-Some c = sym (seat_got c.args.nodes.now.items c.args.id c.in-Some.node.now c.in-Some.ensures.some)
