use Rattle.std.proofs.Common.{◌≤◌, ◌-◌, length}
use Rattle.sig_words.specs.Tokens.{Cuts}
use Rattle.sig_words.proofs.line.cut.Given as goal

abbrev pub invariant-loop-at : goal.invariant-loop-at
invariant-loop-at l = record {
  within : l.at ≤ length l.line;
  cuts : Cuts l.line 0 l.out.items l.at;
}

abbrev pub decreases-loop-at : goal.decreases-loop-at
decreases-loop-at l = length l.line - l.at
