use Rattle.std.proofs.Common.{ℕ, List, length, ap, subst, arith}
use Rattle.sig_graph.specs.Search.{IsWay, Reaches}
use Rattle.sig_graph.proofs.search.goes_to_due.Goals as goal

pub turn-requires-clause-part : goal.turn-requires-clause-part
turn-requires-clause-part c =
    subst (λ (ns : List ℕ). Reaches c.args.nodes.now.items c.args.marks.now.marked c.args.generation c.loop-id.reached ns) c.in-Some.ensures.some c.loop-id.invariant.part

pub turn-requires-clause-room : goal.turn-requires-clause-room
turn-requires-clause-room c =
    let len = ap (λ (ns : List ℕ). length ns) c.in-Some.ensures.some in
    let room = c.loop-id.invariant.room in
    omega (arith, len, room)

pub returns-then-turn-clause-due : goal.returns-then-turn-clause-due
returns-then-turn-clause-due c = λ told root way.
    c.turn.ensures.due c.if-turn.true root (subst (λ (ns : List ℕ). IsWay c.args.nodes.now.items c.args.generation root ns) c.in-Some.ensures.some (c.loop-id.invariant.way root way))

pub returns-then-turn-clause-more : goal.returns-then-turn-clause-more
returns-then-turn-clause-more c = λ s listed. c.turn.ensures.more s (c.loop-id.invariant.more s listed)

pub loop-id-preserved : goal.loop-id-preserved
loop-id-preserved c =
    let inv = c.loop-id.invariant in
    let step = c.turn.ensures in
    record {
      way = λ root way. step.way root (subst (λ (ns : List ℕ). IsWay c.args.nodes.now.items c.args.generation root ns) c.in-Some.ensures.some (inv.way root way));
      part = step.part c.if-turn.false;
      more = λ s listed. step.more s (inv.more s listed);
      room = step.room;
      most = step.most;
    }

pub returns-clause-part : goal.returns-clause-part
returns-clause-part c = λ calm.
    subst (λ (ns : List ℕ). Reaches c.args.nodes.now.items c.args.marks.now.marked c.args.generation c.loop-id.reached ns) c.in_default.ensures.none c.loop-id.invariant.part
