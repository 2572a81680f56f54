use Rattle.std.proofs.Common.{◌≡◌, ◌<◌, ◌≤◌, ◌-◌, ◌+◌, length, drop, false}
use Rattle.std.specs.Prelude.{option_map}
use Rattle.sig_words.specs.Scanner.{closing}
use Rattle.sig_words.proofs.scan.literal_len.Given as goal

abbrev pub invariant-loop-n : goal.invariant-loop-n
invariant-loop-n l = record {
  some : 0 < l.n;
  within : l.n ≤ length l.bytes;
  rest : option_map (λ k. l.n + k) (closing l.behind (drop l.n l.bytes)) ≡ option_map (λ k. k + 1) (closing false (drop 1 l.bytes));
}

abbrev pub decreases-loop-n : goal.decreases-loop-n
decreases-loop-n l = length l.bytes - l.n
