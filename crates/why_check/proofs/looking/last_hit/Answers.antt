use Rattle.std.proofs.Common.{◌+◌, ◌-◌, sym, ◌∙◌, arith}
use Rattle.why_model.specs.Facts.{last_number}
use Rattle.live_why.specs.Views.{past}
use Rattle.why_check.specs.Looking.{hits}
use Rattle.why_check.proofs.Hits.{hit_here, hit_passed, taken, nothing}
use Rattle.why_check.proofs.looking.last_hit.Goals as goal

pub returns-then-is_hit-clause-hit : goal.returns-then-is_hit-clause-hit
returns-then-is_hit-clause-hit c =
    taken c.args.since (c.loop-at.at - 1 + 1) (last_number (hits c.args.wanted c.args.id) (past c.args.facts.now c.args.before)) (omega arith)
    (sym c.loop-at.invariant.same
    ∙ hit_here (hits c.args.wanted c.args.id) c.args.facts.now c.loop-at.at c.is_hit.result (omega arith) (omega arith) c.is_hit.ensures c.if-is_hit.true)

pub loop-at-preserved : goal.loop-at-preserved
loop-at-preserved c = record {
  inside = omega arith;
  same =
      sym (hit_passed (hits c.args.wanted c.args.id) c.args.facts.now c.loop-at.at c.is_hit.result (omega arith) (omega arith) c.is_hit.ensures
      c.if-is_hit.false)
      ∙ c.loop-at.invariant.same;
}

pub returns-clause-hit : goal.returns-clause-hit
returns-clause-hit c =
    nothing (hits c.args.wanted c.args.id) c.args.facts.now c.loop-at.at c.args.since
    (last_number (hits c.args.wanted c.args.id) (past c.args.facts.now c.args.before)) (omega arith) c.loop-at-test.false c.loop-at.invariant.same
