use Rattle.std.proofs.Common.{◌<◌, length, ◌∙◌, rules}
use Rattle.effect_model.specs.Acts.{forget}
use Rattle.sig_watcher.proofs.Places.{map_step}
use Rattle.sig_watcher.proofs.watchers.forget_all.Goals as goal

pub loop-place-preserved : goal.loop-place-preserved
loop-place-preserved c =
    let inside : c.loop-place.place < length c.args.watchers.now.items = search rules in
    c.forget_at.ensures ∙ map_step (forget c.args.id) c.args.watchers.now.items c.loop-place.watchers.items c.loop-place.place inside c.loop-place.invariant
