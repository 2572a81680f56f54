use Rattle.std.proofs.Common.{arith}
use Rattle.live_firing.proofs.Plays.{fires_from, plays_from}
use Rattle.live_firing.proofs.running.run_all.Goals as goal

pub run_in_order-requires-clause-can : goal.run_in_order-requires-clause-can
run_in_order-requires-clause-can g c = fires_from _ _ _ _ _ c.new-events.ensures.items c.requires.can

pub returns-clause-plays : goal.returns-clause-plays
returns-clause-plays g c =
    let few = c.run_in_order.new.events.small in
    let count = c.run_in_order.new.events.ok.0 in
    record {
      events = c.run_in_order.new.events.items;
      few = omega (arith, few, count);
      plays = plays_from _ _ _ _ _ _ _ _ _ _ _ _ _ c.new-events.ensures.items c.in_ok-run_in_order.ensures.plays;
    }
