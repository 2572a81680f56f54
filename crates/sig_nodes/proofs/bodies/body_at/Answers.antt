use Rattle.std.proofs.Common.{sym}
use Rattle.sig_nodes.proofs.Edits.{body_got}
use Rattle.sig_nodes.proofs.bodies.body_at.Goals as goal

pub returns-in-Some-clause-some : goal.returns-in-Some-clause-some
returns-in-Some-clause-some c = sym (body_got c.args.nodes.now.items c.args.id c.in-Some.node.now c.in-Some.ensures.some)
