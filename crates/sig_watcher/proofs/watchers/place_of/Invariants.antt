use Rattle.std.proofs.Common.{◌≡◌, false, take}
use Rattle.sig_watcher.specs.Tables.{is_alive}
use Rattle.sig_watcher.proofs.watchers.place_of.Given as goal

abbrev pub invariant-loop-place : goal.invariant-loop-place
invariant-loop-place l = is_alive (take l.place l.watchers) l.w ≡ false
