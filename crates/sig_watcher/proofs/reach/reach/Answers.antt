use Rattle.std.proofs.Common.{arith}
use Rattle.sig_watcher.proofs.Closure.{begun, ended, went_on}
use Rattle.sig_watcher.proofs.reach.reach.Goals as goal

pub loop-seat-init : goal.loop-seat-init
loop-seat-init c = begun c.args.graph.now c.args.ids.now c.clear.new.self c.add_all_readers.new.reached c.clear.ensures c.add_all_readers.ensures.adds c.add_all_readers.ensures.there

pub loop-seat-smaller : goal.loop-seat-smaller
loop-seat-smaller c = let inside = c.in-Some.ensures.room in omega (arith, inside)

pub loop-seat-preserved : goal.loop-seat-preserved
loop-seat-preserved c =
    went_on c.args.graph.now c.args.ids.now c.in-Some.seat c.loop-seat.place c.loop-seat.reached c.add_from.new.reached c.in-Some.ensures.at c.loop-seat.invariant
    c.add_from.ensures.adds c.add_from.ensures.there

pub returns : goal.returns
returns c = ended c.args.graph.now c.args.ids.now c.loop-seat.place c.loop-seat.reached c.in_default.ensures.at c.loop-seat.invariant
