use Rattle.std.proofs.Common.{refl, arith}
use Rattle.effect_tables.specs.Turned.{after_turns}
use Rattle.effect_turns.proofs.Carried.{can_then, runs_still, spends_none, spends_then}
use Rattle.effect_turns.proofs.Loops.{end_done, end_says, rest_done, rest_says, so_at_first, so_next, turn_next}
use Rattle.effect_turns.proofs.flushes.flush.Goals as goal

pub turning-init : goal.turning-init
turning-init g c = record {
  done = runs_still _ _ _ (after_turns 0) c.requires.can.agrees (λ env. refl);
  far = so_at_first _ _ _;
  spent = spends_none _;
  counted = c.requires.counted;
  within = omega arith;
}

pub turn-requires-clause-can : goal.turn-requires-clause-can
turn-requires-clause-can g c = can_then _ _ _ _ _ _ c.turning.invariant.done c.turning.invariant.spent c.requires.can

pub turn-requires-clause-ruled : goal.turn-requires-clause-ruled
turn-requires-clause-ruled g c = c.turning.invariant.done.rules _ c.requires.ruled

pub returns-then-not-ran-clause-ends : goal.returns-then-not-ran-clause-ends
returns-then-not-ran-clause-ends g c =
    rest_says _ _ _ _ _ c.turning.turns c.in_ok-ran.ran c.turning-test.true c.if-not-ran.true c.requires.can.agrees c.turning.invariant.done c.in_ok-ran.ensures.ran c.turning.invariant.far

pub returns-then-not-ran-clause-done : goal.returns-then-not-ran-clause-done
returns-then-not-ran-clause-done g c =
    rest_done _ _ _ _ _ _ _ c.turning.turns c.in_ok-ran.ran c.turning-test.true c.if-not-ran.true c.requires.can.agrees c.turning.invariant.done c.in_ok-ran.ensures.ran
    c.turning.invariant.far c.in_ok-ran.ensures.done

pub returns-then-not-ran-clause-spent : goal.returns-then-not-ran-clause-spent
returns-then-not-ran-clause-spent g c = spends_then _ _ _ c.turning.invariant.spent c.in_ok-ran.ensures.spent

pub turning-preserved : goal.turning-preserved
turning-preserved g c = record {
  done = turn_next _ _ _ _ _ _ _ c.turning.turns c.requires.can.agrees c.turning.invariant.done c.in_ok-ran.ensures.done;
  far = so_next _ _ _ _ _ c.turning.turns c.in_ok-ran.ran c.turning-test.true c.if-not-ran.false c.requires.can.agrees c.turning.invariant.done c.in_ok-ran.ensures.ran
      c.turning.invariant.far;
  spent = spends_then _ _ _ c.turning.invariant.spent c.in_ok-ran.ensures.spent;
  counted = c.in_ok-ran.ensures.counted;
  within = omega (arith, c.turning-test.true);
}

pub last_look-requires-clause-can : goal.last_look-requires-clause-can
last_look-requires-clause-can g c = can_then _ _ _ _ _ _ c.turning.invariant.done c.turning.invariant.spent c.requires.can

pub returns-clause-ends : goal.returns-clause-ends
returns-clause-ends g c =
    end_says _ _ _ _ _ c.turning.turns c.in_ok-refused.refused c.turning-test.false c.requires.can.agrees c.turning.invariant.done c.in_ok-refused.ensures.due c.turning.invariant.far

pub returns-clause-done : goal.returns-clause-done
returns-clause-done g c =
    end_done _ _ _ _ _ _ _ c.turning.turns c.turning-test.false c.requires.can.agrees c.turning.invariant.done c.turning.invariant.far (c.in_ok-refused.ensures.done _)

pub returns-clause-spent : goal.returns-clause-spent
returns-clause-spent g c = spends_then _ _ _ c.turning.invariant.spent c.in_ok-refused.ensures.spent
