use Rattle.std.proofs.Common.{arith}
use Rattle.sig_computed.proofs.Sources.{visited_ready}
use Rattle.sig_computed.proofs.turns.look_again.Goals as goal

pub compared-requires-clause-small : goal.compared-requires-clause-small
compared-requires-clause-small c = let next = c.in-Some.ensures.next in omega (arith, next)

pub compared-requires-clause-moved : goal.compared-requires-clause-moved
compared-requires-clause-moved c = c.in-Some.ensures.source.moved

pub returns-in-Some-clause-turn : goal.returns-in-Some-clause-turn
returns-in-Some-clause-turn c =
    let r = c.in-Some.ensures.source in
    c.compared.ensures.turn c.args.visited.now r.name r.named (visited_ready c.args.graph.now.state c.args.visited.now r.name r.seen)

pub returns-in-Some-clause-after : goal.returns-in-Some-clause-after
returns-in-Some-clause-after c =
    let r = c.in-Some.ensures.source in
    c.compared.ensures.after c.args.visited.now r.name r.named
