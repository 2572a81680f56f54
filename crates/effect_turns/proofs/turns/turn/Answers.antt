use Rattle.std.proofs.Common.{subst, map, arith}
use Rattle.sig_effect.specs.Stores.{environment}
use Rattle.effect_turns.specs.Stills.{NoneLower, StandsAt}
use Rattle.effect_turns.proofs.Carried.{spends_none, spends_then}
use Rattle.effect_turns.proofs.Visited.{last_between, ran_none, ran_on, ran_to, visited_all, visited_says, visits_none, visits_on, visits_to}
use Rattle.effect_turns.proofs.turns.turn.Goals as goal

pub visiting-init : goal.visiting-init
visiting-init g c = record {
  done = visits_none _ _ _ c.requires.can.agrees;
  ran = λ hosts all sound. ran_none (environment hosts (map (λ r. r.slack) c.args.rules.now)) _ c.requires.can;
  spent = spends_none _;
  counted = c.requires.counted;
}

pub visiting-preserved : goal.visiting-preserved
visiting-preserved g c =
    let v = c.visiting.invariant in
    let stands = subst (StandsAt c.in-Some.id c.next_loud-place.result) c.deref.ensures.value c.in-Some.ensures.there in
    record {
      done = visits_on _ _ _ _ _ c.visiting.low c.in-Some.id c.next_loud-place.result c.requires.can.agrees v.done c.next_loud-place.ensures stands c.in-Some.ensures.lower c.number-low.result c.number-low.ensures _ _ c.in_ok-due.ensures.done;
      ran = ran_on _ _ _ _ _ c.visiting.low c.in-Some.id c.next_loud-place.result c.requires.can.agrees v.done c.next_loud-place.ensures stands c.in-Some.ensures.lower c.number-low.result c.number-low.ensures
          c.visiting.ran c.in_ok-due.due c.either-ran.result v.ran c.in_ok-due.ensures.due c.either-ran.ensures;
      spent = spends_then _ _ _ v.spent c.in_ok-due.ensures.spent;
      counted = c.in_ok-due.ensures.counted;
    }

pub returns-in_default-clause-ran : goal.returns-in_default-clause-ran
returns-in_default-clause-ran g c = λ hosts all sound.
    let v = c.visiting.invariant in
    let none = subst (NoneLower c.args.world.now.tables.effects_made c.next_loud-place.result) c.deref.ensures.value c.in_default.ensures.none in
    visited_says _ _ c.args.world.now.tables.effects_made c.visiting.ran hosts c.requires.can (omega arith)
    (ran_to _ _ _ _ _ _ _ _
    (last_between _ _ _ _ _ c.visiting.low c.next_loud-place.result c.requires.can.agrees v.done c.next_loud-place.ensures c.visiting-test.true none)
    c.visiting.ran hosts all sound (v.ran hosts all sound))

pub returns-in_default-clause-done : goal.returns-in_default-clause-done
returns-in_default-clause-done g c =
    let v = c.visiting.invariant in
    let none = subst (NoneLower c.args.world.now.tables.effects_made c.next_loud-place.result) c.deref.ensures.value c.in_default.ensures.none in
    visited_all _ _ _ _ _ c.args.world.now.tables.effects_made c.requires.can.agrees (omega arith)
    (visits_to _ _ _ _ _ _ _ _
    (last_between _ _ _ _ _ c.visiting.low c.next_loud-place.result c.requires.can.agrees v.done c.next_loud-place.ensures c.visiting-test.true none))

pub returns-clause-ran : goal.returns-clause-ran
returns-clause-ran g c = λ hosts all sound.
    let f = c.visiting-test.false in
    visited_says _ _ c.visiting.low c.visiting.ran hosts c.requires.can (omega (arith, f)) (c.visiting.invariant.ran hosts all sound)

pub returns-clause-done : goal.returns-clause-done
returns-clause-done g c =
    let f = c.visiting-test.false in
    visited_all _ _ _ _ _ c.visiting.low c.requires.can.agrees (omega (arith, f)) c.visiting.invariant.done
