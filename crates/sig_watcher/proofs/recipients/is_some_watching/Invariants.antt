use Rattle.std.proofs.Common.{◌≡◌, drop}
use Rattle.std.specs.List.{list_any}
use Rattle.effect_model.specs.Worlds.{Watcher}
use Rattle.sig_watcher.proofs.recipients.is_some_watching.Given as goal

abbrev pub invariant-loop-place : goal.invariant-loop-place
invariant-loop-place l = list_any (λ (x : Watcher). x.watching) (drop l.place l.watchers) ≡ list_any (λ (x : Watcher). x.watching) l.watchers
