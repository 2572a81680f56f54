use Rattle.std.proofs.Common.{◌<◌, List, length, sym, ap, ◌∙◌, subst, arith, rules}
use Rattle.effect_model.specs.Worlds.{Watcher}
use Rattle.effect_model.specs.Acts.{is_notified_by_any, waiting_if}
use Rattle.sig_watcher.specs.Numbers.{AreNumbered}
use Rattle.sig_watcher.specs.Notices.{passes_at, waiting_after}
use Rattle.sig_watcher.proofs.Notices.{numbered_after, told_step, waiting_step}
use Rattle.sig_watcher.proofs.Places.{length_changed}
use Rattle.sig_watcher.proofs.recipients.tell_all.Goals as goal

pub loop-place-preserved : goal.loop-place-preserved
loop-place-preserved c =
    let g = c.args.graph.now in
    let test = is_notified_by_any g.state.signals g.state.memos c.args.ids.now in
    let all = c.args.watchers.now.items in
    let xs = c.loop-place.watchers.items in
    let p = c.loop-place.place in
    let hit = c.is_hit-hit.result in
    let inside : c.loop-place.place < length c.args.watchers.now.items = search rules in
    record {
      told = λ only.
          let b = c.is_hit-hit.ensures only c.reach.ensures ∙ ap (passes_at test p) c.deref.ensures.value in
          told_step test (waiting_if test) all xs c.args.told.now.items c.loop-place.told.items c.tell_at.new.told.items p hit inside (c.loop-place.invariant.watchers only) b (c.loop-place.invariant.told only) c.tell_at.ensures.told;
      watchers = λ only.
          let b = c.is_hit-hit.ensures only c.reach.ensures ∙ ap (passes_at test p) c.deref.ensures.value in
          c.tell_at.ensures.watchers ∙ waiting_step test all xs p hit inside (c.loop-place.invariant.watchers only) b;
      numbered = λ made h. subst (λ (ys : List Watcher). AreNumbered ys made) (sym c.tell_at.ensures.watchers) (numbered_after hit p made xs (c.loop-place.invariant.numbered made h));
      size = ap length c.tell_at.ensures.watchers ∙ length_changed p (waiting_after hit) xs ∙ c.loop-place.invariant.size;
      room = let room = c.loop-place.invariant.room in let len = c.tell_at.ensures.len in let capacity = c.tell_at.ensures.capacity in omega (arith, room, len, capacity);
    }
