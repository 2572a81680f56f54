use Rattle.std.proofs.Common.{◌≡◌, map, take}
use Rattle.live_model.specs.Labels.{name_at}
use Rattle.live_labels.proofs.names.names_of_signals.Given as goal

-- the names so far
abbrev pub invariant-loop-id : goal.invariant-loop-id
invariant-loop-id l = l.found.items ≡ map (name_at l.names) (take l.id-index l.ids)
