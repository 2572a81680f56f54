use Rattle.std.proofs.Common.{arith}
use Rattle.std.specs.List.{zip}
use Rattle.tpl_hearing.proofs.Stood.{cells_on}
use Rattle.tpl_hearing.proofs.again.cells_up_to.Goals as goal

pub numbers_up_to-next-requires-clause-from : goal.numbers_up_to-next-requires-clause-from
numbers_up_to-next-requires-clause-from c = let low = c.loop-place-test.true in omega (arith, low)

pub loop-place-preserved : goal.loop-place-preserved
loop-place-preserved c =
    cells_on c.args.graph.now.state.signals (zip c.args.ids.now c.args.outcomes.now) c.args.from c.loop-place.place c.numbers_up_to-next.result
    c.pair_at-id.result.0 c.pair_at-id.result.1.now c.loop-place.invariant c.pair_at-id.ensures (c.shows_as_cell.ensures c.if-not-shows_as_cell.false)
    c.numbers_up_to-next.ensures

pub loop-place-smaller : goal.loop-place-smaller
loop-place-smaller c =
    let least = c.numbers_up_to-next.ensures.least in
    let low = c.loop-place-test.true in omega (arith, least, low)
