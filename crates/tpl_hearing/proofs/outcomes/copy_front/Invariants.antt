use Rattle.std.proofs.Common.{◌≡◌, ◌≤◌, take}
use Rattle.tpl_hearing.proofs.outcomes.copy_front.Given as goal

-- so many of them so far
abbrev pub invariant-loop-place : goal.invariant-loop-place
invariant-loop-place l = record {
  copied : l.own.items ≡ take l.place l.outcomes;
  low : l.place ≤ l.count;
}
