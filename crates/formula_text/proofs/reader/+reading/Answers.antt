use Rattle.std.proofs.Common.{arith, ◌+◌, length, inl, inr, ap}
use Rattle.formula_text.specs.Rough.{draft, signs_from}
use Rattle.formula_text.proofs.Complete.{none_begins, begins, goes, stays, refuses, others, none_stops}
use Rattle.formula_text.proofs.Places.{others_stop}
use Rattle.formula_text.proofs.reader.+reading.Goals as goal
use Rattle.formula_text.proofs.reader.+reading.Goals.{expr-then-level-least-via-then-level-least, expr-then-level-least-via-else-level-least+then-own-before}

pub expr-returns-in_default-clause-exact : goal.expr-returns-in_default-clause-exact
expr-returns-in_default-clause-exact t c = λ n small. none_begins n _ _ small (λ m h. let e = c.in_ok-left.ensures.exact m h in rw c.in_default.is at e)

pub expr-loop-sign-init : goal.expr-loop-sign-init
expr-loop-sign-init t c =
    let part = rw c.in-Some.is at c.in_ok-left.ensures.part in
    record {
      part = part;
      leads = λ n small. begins n _ _ _ small (λ m h. let e = c.in_ok-left.ensures.exact m h in rw c.in-Some.is at e) (omega (arith, part.shorter));
    }

pub expr-returns-in_default-sign : goal.expr-returns-in_default-sign
expr-returns-in_default-sign t c = record {
  part = c.loop-sign.invariant.part;
  exact = λ n small. others n _ _ _ (others_stop _ c.in-Some-sign_at.sign _ _ c.in-Some-sign_at.ensures.found c.in_default-sign.not-Operator) (c.loop-sign.invariant.leads n small);
}

pub expr-returns-then-level-least-clause-exact : goal.expr-returns-then-level-least-clause-exact
expr-returns-then-level-least-clause-exact t c = λ n small.
    let is = rw c.in-Operator.is at c.in-Some-sign_at.ensures.found in
    let leads = c.loop-sign.invariant.leads n small in
    refuses c.in-Operator.o n _ _ _ (draft c.args.line.now c.args.tokens.now c.loop-sign.left.value, c.loop-sign.own, signs_from c.args.line.now c.args.tokens.now c.loop-sign.rest) is leads
    (elim c.then-level-least.branch [
      | expr-then-level-least-via-then-level-least w ↦ inl (let a = w.if-level-least.true in omega (arith, c.level.ensures))
      | expr-then-level-least-via-else-level-least+then-own-before w ↦ inr (let a = w.if-own-before.true in omega (arith, w.before-else-level-least.ensures))
    ])

pub expr-returns-in_default-2-clause-exact : goal.expr-returns-in_default-2-clause-exact
expr-returns-in_default-2-clause-exact t c = λ n small.
    let is = rw c.in-Operator.is at c.in-Some-sign_at.ensures.found in
    let leads = c.loop-sign.invariant.leads n small in
    let shorter = c.loop-sign.invariant.part.shorter in
    stays c.in-Operator.o n _ _ (signs_from c.args.line.now c.args.tokens.now (c.loop-sign.rest + 1)) (draft c.args.line.now c.args.tokens.now c.loop-sign.left.value, c.loop-sign.own, signs_from c.args.line.now c.args.tokens.now c.loop-sign.rest) is leads (omega (arith, ap length is)) small
    (λ m h. let e = c.in_ok-right.ensures.exact m h in rw (c.in_default-2.is, c.level-in-Some-sign_at.ensures) at e)

pub expr-loop-sign-preserved : goal.expr-loop-sign-preserved
expr-loop-sign-preserved t c =
    let is = rw c.in-Operator.is at c.in-Some-sign_at.ensures.found in
    let shorter = c.loop-sign.invariant.part.shorter in
    let right = rw c.in-Some-2.is at c.in_ok-right.ensures.part in
    let shorter-right = right.shorter in
    record {
      part = record {
        shorter = omega (arith, ap length is);
        within = right.within;
        leaves = rw c.in_ok-left-2.ensures (c.loop-sign.invariant.part.leaves, right.leaves);
      };
      leads = λ n small.
          let leads = rw is at (c.loop-sign.invariant.leads n small) in
          rw (c.in_ok-left-2.ensures, c.level-own.ensures)
          (goes c.in-Operator.o _ _ c.loop-sign.own c.in-Some-2.field-0-1 n _ _ (signs_from c.args.line.now c.args.tokens.now (c.loop-sign.rest + 1)) _
          (let a = c.if-level-least.false in omega (arith, c.level.ensures))
          (let a = c.if-own-before.false in omega (arith, c.before-else-level-least.ensures))
          leads (omega (arith, ap length is)) small
          (λ m h. let e = c.in_ok-right.ensures.exact m h in rw (c.in-Some-2.is, c.level-in-Some-sign_at.ensures) at e) (omega arith));
    }

pub expr-returns-clause-exact : goal.expr-returns-clause-exact
expr-returns-clause-exact t c = λ n small. others n _ _ _ (none_stops _ c.in_default-sign_at.ensures.found) (c.loop-sign.invariant.leads n small)
