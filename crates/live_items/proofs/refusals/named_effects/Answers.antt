use Rattle.std.proofs.Common.{◌∙◌, length, map}
use Rattle.std.specs.List.{filter}
use Rattle.effect_tables.specs.Placed.{effect_of}
use Rattle.live_labels.specs.Views.{labels_of}
use Rattle.live_model.specs.Labels.{is_named, label_at}
use Rattle.live_items.proofs.refusals.named_effects.Goals as goal

pub returns : goal.returns
returns c =
    let labels = labels_of c.args.machine.now.labels in
    c.named_count.ensures ∙ (λ i. length (filter (λ x. is_named (label_at labels.effects x.number)) (map effect_of (c.deref.ensures.value i))))
