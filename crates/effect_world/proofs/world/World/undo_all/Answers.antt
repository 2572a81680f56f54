use Rattle.std.proofs.Common.{arith, subst, sym}
use Rattle.effect_world.proofs.Undone.{noted_at, undoes_all, undoes_next, undoes_none}
use Rattle.effect_world.specs.Signals.{IsNoted}
use Rattle.effect_world.proofs.world.World.undo_all.Goals as goal

pub loop-undoing-init : goal.loop-undoing-init
loop-undoing-init g c = record { done = undoes_none _ _ _ c.requires.agrees; within = omega arith; told = omega arith; counted = c.requires.counted }

pub undo-requires-clause-noted : goal.undo-requires-clause-noted
undo-requires-clause-noted g c = subst IsNoted (sym c.undoing-item.is) (noted_at c.args.undoings.now c.loop-undoing.undoing-index c.undoing-item.result c.loop-undoing-test.true c.requires.noted)

pub undo-requires-clause-ruled : goal.undo-requires-clause-ruled
undo-requires-clause-ruled g c = c.loop-undoing.invariant.done.rules _ c.requires.ruled

pub undo-requires-clause-worn : goal.undo-requires-clause-worn
undo-requires-clause-worn g c =
    let w = c.loop-undoing.invariant.done.worn in
    omega (arith, w)

pub undo-requires-clause-agrees : goal.undo-requires-clause-agrees
undo-requires-clause-agrees g c = c.loop-undoing.invariant.done.agrees

pub loop-undoing-preserved : goal.loop-undoing-preserved
loop-undoing-preserved g c = record {
  done = undoes_next _ _ _ _ _ _ _ c.args.undoings.now c.loop-undoing.undoing-index c.undoing-item.result c.loop-undoing-test.true c.undoing-item.is c.loop-undoing.invariant.done c.in_ok-undo.ensures.done;
  within = omega arith;
  told = let t = c.loop-undoing.invariant.told in let u = c.in_ok-undo.ensures.told in omega (arith, t, u);
  counted = c.in_ok-undo.ensures.counted;
}

pub returns-clause-done : goal.returns-clause-done
returns-clause-done g c =
    undoes_all _ _ _ _ _ c.args.undoings.now c.loop-undoing.undoing-index c.loop-undoing-test.false c.loop-undoing.invariant.within c.loop-undoing.invariant.done

pub returns-clause-told : goal.returns-clause-told
returns-clause-told g c =
    let t = c.loop-undoing.invariant.told in
    let e = c.loop-undoing-test.false in
    omega (arith, t, e)
