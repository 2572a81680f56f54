use Rattle.std.proofs.Common.{[], subst, arith, ap, length}
use Rattle.effect_tables.specs.declared.effect.TheConstants.{MOST_STATEMENTS}
use Rattle.effect_runs.specs.Evaluations.{IsShort}
use Rattle.effect_turns.proofs.Ends.{acts_runs, fail_runs}
use Rattle.effect_turns.proofs.run.finish.Goals as goal

pub returns-in_ok-fail-in-Fail-clause-done : goal.returns-in_ok-fail-in-Fail-clause-done
returns-in_ok-fail-in-Fail-clause-done g c = fail_runs _ _ _ _ c.args.id _ c.args.end c.in-Fail.fault c.in-Fail.is (c.in_ok-fail-in-Fail.ensures _ _ c.requires.may.agrees)

pub returns-in_ok-fail-in-Fail-clause-used : goal.returns-in_ok-fail-in-Fail-clause-used
returns-in_ok-fail-in-Fail-clause-used g c =
    let d = c.in_ok-fail-in-Fail.ensures _ [] c.requires.may.agrees in
    let w = d.worn in
    record { worn = omega (arith, w); told = d.told; most = omega arith }

pub do_acts-requires-clause-agrees : goal.do_acts-requires-clause-agrees
do_acts-requires-clause-agrees g c = c.requires.may.agrees

pub do_acts-requires-clause-ruled : goal.do_acts-requires-clause-ruled
do_acts-requires-clause-ruled g c = c.requires.may.ruled

pub do_acts-requires-clause-worn : goal.do_acts-requires-clause-worn
do_acts-requires-clause-worn g c = c.requires.may.worn

pub returns-in_ok-do_acts-in-Acts-clause-done : goal.returns-in_ok-do_acts-in-Acts-clause-done
returns-in_ok-do_acts-in-Acts-clause-done g c =
    acts_runs _ _ _ _ _ c.args.id _ c.args.end c.in-Acts.acts _ c.in-Acts.is c.deref.ensures.value _ c.in_ok-do_acts-in-Acts.ensures.done

pub returns-in_ok-do_acts-in-Acts-clause-used : goal.returns-in_ok-do_acts-in-Acts-clause-used
returns-in_ok-do_acts-in-Acts-clause-used g c =
    let d = c.in_ok-do_acts-in-Acts.ensures.done in
    let w = d.worn in
    let few = subst (IsShort MOST_STATEMENTS) c.in-Acts.is c.requires.few in
    let n = ap length c.deref.ensures.value in
    record { worn = omega (arith, w, few, n); told = d.told; most = d.most }
