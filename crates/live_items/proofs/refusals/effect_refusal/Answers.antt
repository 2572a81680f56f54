use Rattle.std.proofs.Common.{arith, Bool, length, map, sym}
use Rattle.std.specs.List.{filter}
use Rattle.effect_model.specs.Worlds as told
use Rattle.effect_tables.specs.Placed.{effect_of}
use Rattle.effect_model.specs.declared.limits.TheConstants.{MOST_EFFECTS}
use Rattle.live_entries.specs.declared.refusal.LimitWord.TheVariants as limit
use Rattle.live_labels.specs.Views.{labels_of}
use Rattle.live_model.specs.Labels.{is_named, label_at}
use Rattle.live_items.proofs.Places.{no_more_named, none_below}
use Rattle.live_items.proofs.refusals.effect_refusal.Goals as goal

pub returns-then-len-lt-MOST_EFFECTS : goal.returns-then-len-lt-MOST_EFFECTS
returns-then-len-lt-MOST_EFFECTS c =
    let m = c.args.machine.now in
    let made : told.Effect → Bool = λ x. is_named (label_at (labels_of m.labels).effects x.number) in
    let few = no_more_named made m.world.tables.effects.items in
    let count = c.len.ensures in
    let below = c.if-len-lt-MOST_EFFECTS.true in
    sym (none_below MOST_EFFECTS (length (filter made (map effect_of m.world.tables.effects.items))) limit.Effects (omega (arith, few, count, below)))
