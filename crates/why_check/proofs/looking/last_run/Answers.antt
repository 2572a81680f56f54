use Rattle.std.proofs.Common.{sym, ◌∙◌, arith}
use Rattle.live_why.proofs.SharedSearches.{run_here, run_passed, change_passed, none_run}
use Rattle.why_check.proofs.looking.last_run.Goals as goal

pub returns-then-eq-clause-found : goal.returns-then-eq-clause-found
returns-then-eq-clause-found c =
    sym c.loop-at.invariant.same
    ∙ run_here c.args.facts.now c.loop-at.at c.args.id c.index-facts-at.result c.in-Run.note (omega arith) (omega arith) c.index-facts-at.is c.in-Run.is
    (sym c.eq.ensures ∙ c.if-eq.true)

pub loop-at-preserved-else-eq : goal.loop-at-preserved-else-eq
loop-at-preserved-else-eq c = record {
  inside = omega arith;
  same =
      sym (run_passed c.args.facts.now c.loop-at.at c.args.id c.index-facts-at.result c.in-Run.note (omega arith) (omega arith) c.index-facts-at.is
      c.in-Run.is (sym c.eq.ensures ∙ c.if-eq.false))
      ∙ c.loop-at.invariant.same;
}

pub loop-at-preserved : goal.loop-at-preserved
loop-at-preserved c = record {
  inside = omega arith;
  same =
      sym (change_passed c.args.facts.now c.loop-at.at c.args.id c.index-facts-at.result c.in_default.field-0 c.in_default.field-1 (omega arith) (omega arith)
      c.index-facts-at.is c.in_default.is)
      ∙ c.loop-at.invariant.same;
}

pub returns-clause-found : goal.returns-clause-found
returns-clause-found c = sym c.loop-at.invariant.same ∙ none_run c.args.facts.now c.loop-at.at c.args.id c.loop-at-test.false
