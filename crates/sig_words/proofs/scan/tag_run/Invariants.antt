use Rattle.std.proofs.Common.{◌≡◌, ◌<◌, ◌≤◌, ◌-◌, length, take, drop, true}
use Rattle.std.specs.List.{list_all}
use Rattle.sig_base.specs.Words.{in_tag}
use Rattle.sig_words.proofs.scan.tag_run.Given as goal

abbrev pub invariant-loop-n : goal.invariant-loop-n
invariant-loop-n l = record {
  some : 0 < l.n;
  within : l.n ≤ length l.bytes;
  run : list_all in_tag (drop 1 (take l.n l.bytes)) ≡ true;
}

abbrev pub decreases-loop-n : goal.decreases-loop-n
decreases-loop-n l = length l.bytes - l.n
