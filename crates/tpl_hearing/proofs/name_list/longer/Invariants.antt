use Rattle.std.proofs.Common.{◌≡◌, ◌≤◌, take}
use Rattle.tpl_hearing.proofs.name_list.longer.Given as goal

-- so many of them so far
abbrev pub invariant-loop-place : goal.invariant-loop-place
invariant-loop-place l = record { front : l.own.keys ≡ take l.place l.names.keys; low : l.place ≤ l.count }
