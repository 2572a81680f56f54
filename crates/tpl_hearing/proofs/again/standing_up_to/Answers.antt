use Rattle.std.proofs.Common.{◌+◌, refl, subst, ◌∙◌, arith}
use Rattle.std.specs.List.{zip}
use Rattle.sig_graph.specs.States.{Seen}
use Rattle.tpl_hearing.specs.HeardAgain.{StandsAs}
use Rattle.tpl_hearing.specs.Unseen.{AreCellsBetween}
use Rattle.tpl_hearing.proofs.Stood.{cells_stand, stand_on}
use Rattle.tpl_hearing.proofs.again.standing_up_to.Goals as goal

pub loop-place-init : goal.loop-place-init
loop-place-init c = record {
  same = refl;
  stand = cells_stand c.args.graph.now.state.signals c.args.graph.now.state.memos (zip c.args.ids.now c.args.outcomes.now) c.args.from
      c.cells_up_to-place.result c.cells_up_to-place.ensures;
}

pub cells_up_to-next-requires-clause-from : goal.cells_up_to-next-requires-clause-from
cells_up_to-next-requires-clause-from c = let low = c.loop-place-test.true in omega (arith, low)

pub loop-place-preserved : goal.loop-place-preserved
loop-place-preserved c =
    let w = c.args.graph.now.state.signals in
    let k = c.args.graph.now.state.memos in
    let ps = zip c.args.ids.now c.args.outcomes.now in
    let before = c.loop-place.invariant.same in
    let one = subst (λ (g : Seen). StandsAs g.state.signals g.state.memos c.pair_at-id.result.0 c.pair_at-id.result.1.now) before
    (c.stands_as.ensures.stands c.if-not-stands_as.false) in
    record {
      same = c.stands_as.ensures.same ∙ before;
      stand = stand_on w k ps c.args.from c.loop-place.place c.cells_up_to-next.result c.pair_at-id.result.0 c.pair_at-id.result.1.now
          c.loop-place.invariant.stand c.pair_at-id.ensures one
          (subst (λ (g : Seen). AreCellsBetween g.state.signals ps (c.loop-place.place + 1) c.cells_up_to-next.result)
          (c.stands_as.ensures.same ∙ before) c.cells_up_to-next.ensures);
    }

pub loop-place-smaller : goal.loop-place-smaller
loop-place-smaller c =
    let least = c.cells_up_to-next.ensures.least in
    let low = c.loop-place-test.true in omega (arith, least, low)
