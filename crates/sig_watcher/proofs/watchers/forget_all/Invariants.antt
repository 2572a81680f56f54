use Rattle.std.proofs.Common.{◌≡◌, ◌++◌, drop, map, take}
use Rattle.effect_model.specs.Acts.{forget}
use Rattle.sig_watcher.proofs.watchers.forget_all.Given as goal

abbrev pub invariant-loop-place : goal.invariant-loop-place
invariant-loop-place l = l.watchers.items ≡ map (forget l.id) (take l.place l.initial.watchers.items) ++ drop l.place l.initial.watchers.items
