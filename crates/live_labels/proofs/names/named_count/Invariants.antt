use Rattle.std.proofs.Common.{◌≡◌, ◌+◌, ◌≤◌, drop, length, map, nat_eq}
use Rattle.std.specs.List.{filter}
use Rattle.indexmap.specs.IndexMap.{get}
use Rattle.effect_tables.specs.Placed.{effect_of}
use Rattle.live_model.specs.Labels.{is_named, label_at}
use Rattle.live_labels.proofs.names.named_count.Given as goal

-- those so far and those of the rest are all, and no more than were looked at
abbrev pub invariant-loop-effect : goal.invariant-loop-effect
invariant-loop-effect l =
    (l.count + length (filter (λ x. is_named (label_at (get nat_eq l.labels) x.number)) (map effect_of (drop l.effect-index l.effects)))
    ≡ length (filter (λ x. is_named (label_at (get nat_eq l.labels) x.number)) (map effect_of l.effects))) × (l.count ≤ l.effect-index)
