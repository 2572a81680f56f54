use Rattle.std.proofs.Common.{◌≡◌, map, take}
use Rattle.live_model.specs.Labels.{name_at}
use Rattle.live_labels.proofs.names.names_of_watchers.Given as goal

-- the names so far
abbrev pub invariant-loop-watcher : goal.invariant-loop-watcher
invariant-loop-watcher l = l.found.items ≡ map (name_at l.names) (take l.watcher-index l.watchers)
