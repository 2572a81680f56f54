use Rattle.bench_workload.proofs.Rounds.{round_on}
use Rattle.bench_workload.proofs.script.put_round.Goals as goal

pub returns : goal.returns
returns c = round_on _ _ _ _ c.args.round c.in_ok-put_set.ensures c.in_ok-put_switch.ensures c.in_ok-put_flush.ensures
