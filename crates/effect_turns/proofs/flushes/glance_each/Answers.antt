use Rattle.std.proofs.Common.{refl, []}
use Rattle.effect_tables.specs.Visits.{glance_all}
use Rattle.effect_turns.proofs.Carried.{can_then, runs_still, spends_none, spends_then}
use Rattle.effect_turns.proofs.Loops.{found_done, found_refused, glances_next, left_next, none_done, none_refused}
use Rattle.effect_turns.proofs.flushes.glance_each.Goals as goal

pub loop-id-init : goal.loop-id-init
loop-id-init g c = record {
  done = λ slacks. runs_still slacks _ _ (λ env. glance_all env []) c.requires.can.agrees (λ env. refl);
  left = record { left = λ hosts slacks all sound. refl };
  spent = spends_none _;
  counted = c.requires.counted;
}

pub glance-requires-clause-can : goal.glance-requires-clause-can
glance-requires-clause-can g c = can_then _ _ _ _ _ _ (c.loop-id.invariant.done []) c.loop-id.invariant.spent c.requires.can

pub returns-then-due-clause-due : goal.returns-then-due-clause-due
returns-then-due-clause-due g c =
    found_refused _ _ _ _ c.args.ids.now c.loop-id.id-index c.id-item.result c.in_ok-due.due c.loop-id-test.true c.id-item.is c.if-due.true c.loop-id.invariant.done
    c.in_ok-due.ensures.due c.loop-id.invariant.left

pub returns-then-due-clause-done : goal.returns-then-due-clause-done
returns-then-due-clause-done g c = λ slacks.
    found_done slacks _ _ _ _ _ _ c.args.ids.now c.loop-id.id-index c.id-item.result c.in_ok-due.due c.loop-id-test.true c.id-item.is c.if-due.true c.loop-id.invariant.done
    c.in_ok-due.ensures.due c.loop-id.invariant.left c.requires.can.agrees (c.in_ok-due.ensures.done slacks)

pub returns-then-due-clause-spent : goal.returns-then-due-clause-spent
returns-then-due-clause-spent g c = spends_then _ _ _ c.loop-id.invariant.spent c.in_ok-due.ensures.spent

pub loop-id-preserved : goal.loop-id-preserved
loop-id-preserved g c = record {
  done = λ slacks.
      glances_next slacks _ _ _ _ _ _ c.args.ids.now c.loop-id.id-index c.id-item.result c.loop-id-test.true c.id-item.is c.requires.can.agrees (c.loop-id.invariant.done slacks)
      (c.in_ok-due.ensures.done slacks);
  left = left_next _ _ _ _ c.args.ids.now c.loop-id.id-index c.id-item.result c.in_ok-due.due c.loop-id-test.true c.id-item.is c.if-due.false c.loop-id.invariant.done
      c.in_ok-due.ensures.due c.loop-id.invariant.left;
  spent = spends_then _ _ _ c.loop-id.invariant.spent c.in_ok-due.ensures.spent;
  counted = c.in_ok-due.ensures.counted;
}

pub returns-clause-due : goal.returns-clause-due
returns-clause-due g c = none_refused _ _ c.args.ids.now c.loop-id.id-index c.loop-id-test.false c.loop-id.invariant.left

pub returns-clause-done : goal.returns-clause-done
returns-clause-done g c = λ slacks.
    none_done slacks _ _ _ _ c.args.ids.now c.loop-id.id-index c.loop-id-test.false c.loop-id.invariant.left (c.loop-id.invariant.done slacks)
