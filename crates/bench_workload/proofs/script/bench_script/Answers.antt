use Rattle.std.proofs.Common.{arith}
use Rattle.bench_workload.proofs.Rounds.{text_more, text_none, text_whole, whole_short}
use Rattle.bench_workload.proofs.script.bench_script.Goals as goal

pub loop-done-init : goal.loop-done-init
loop-done-init c = text_none _ _ c.in_ok-script.ensures.items c.in_ok-put_first.ensures

pub loop-done-preserved : goal.loop-done-preserved
loop-done-preserved c = text_more c.loop-done.done _ _ c.loop-done.invariant c.in_ok-put_round.ensures

pub returns-clause-text : goal.returns-clause-text
returns-clause-text c = text_whole c.loop-done.done c.args.rounds _ _ (omega arith) c.loop-done.invariant c.in_ok-put.ensures

pub returns-clause-short : goal.returns-clause-short
returns-clause-short c = whole_short c.loop-done.done c.args.rounds _ _ (omega arith) c.loop-done.invariant c.in_ok-put.ensures
