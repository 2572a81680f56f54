use Rattle.std.proofs.Common.{arith}
use Rattle.bench_workload.proofs.Rounds.{one_digit, two_digits}
use Rattle.bench_workload.proofs.script.put_short.Goals as goal

pub returns-then-value-lt10 : goal.returns-then-value-lt10
returns-then-value-lt10 c = one_digit _ _ c.args.value (omega arith) c.in_ok-put_digit.ensures

pub returns : goal.returns
returns c = two_digits _ _ _ c.args.value (omega arith) (omega arith) c.in_ok-put_digit-2.ensures c.in_ok-put_digit-3.ensures
