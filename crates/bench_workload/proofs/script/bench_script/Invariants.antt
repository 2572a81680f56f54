use Rattle.std.proofs.Common.{◌≡◌}
use Rattle.bench_workload.proofs.Rounds.{text_to}
use Rattle.bench_workload.proofs.script.bench_script.Given as goal

-- the text of the rounds so far
abbrev pub invariant-loop-done : goal.invariant-loop-done
invariant-loop-done l = l.script.items ≡ text_to l.done
