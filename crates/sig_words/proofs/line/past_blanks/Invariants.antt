use Rattle.std.proofs.Common.{◌≡◌, ◌≤◌, ◌-◌, length, take, drop, true}
use Rattle.std.specs.List.{list_all}
use Rattle.sig_base.specs.Words.{is_blank}
use Rattle.sig_words.proofs.line.past_blanks.Given as goal

abbrev pub invariant-loop-at : goal.invariant-loop-at
invariant-loop-at l = record {
  after : l.from ≤ l.at;
  within : l.at ≤ length l.line;
  blanks : list_all is_blank (take (l.at - l.from) (drop l.from l.line)) ≡ true;
}

abbrev pub decreases-loop-at : goal.decreases-loop-at
decreases-loop-at l = length l.line - l.at
