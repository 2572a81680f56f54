use Rattle.std.proofs.Common.{◌&&◌, sym, ap, ◌∙◌}
use Rattle.effect_model.specs.Acts.{is_notified_by_any, is_reached_by_any, some_name}
use Rattle.sig_watcher.proofs.Notices.{found_is, passes_here}
use Rattle.sig_watcher.proofs.recipients.is_hit.Goals as goal

pub returns-then-is_watching : goal.returns-then-is_watching
returns-then-is_watching c = λ only reaching.
    let g = c.args.graph.now in
    let x = c.index-watchers-place.result in
    let some = some_name (is_reached_by_any g.state.signals g.state.memos c.args.ids.now) in
    let here = passes_here (is_notified_by_any g.state.signals g.state.memos c.args.ids.now) c.args.place c.args.watchers.now x c.requires c.index-watchers-place.is in
    let watching = sym c.is_watching.ensures ∙ c.if-is_watching.true in
    found_is g c.args.ids.now c.args.reached.now c.signals.result.now c.is_some_found.result c.is_some_found.ensures.found c.is_some_found.ensures.clear only reaching
    ∙ ap some c.signals.ensures ∙ sym (here ∙ ap (λ b. b && some x.signals) watching)

pub returns-else-is_watching : goal.returns-else-is_watching
returns-else-is_watching c = λ only reaching.
    let g = c.args.graph.now in
    let x = c.index-watchers-place.result in
    let some = some_name (is_reached_by_any g.state.signals g.state.memos c.args.ids.now) in
    let here = passes_here (is_notified_by_any g.state.signals g.state.memos c.args.ids.now) c.args.place c.args.watchers.now x c.requires c.index-watchers-place.is in
    let waiting = sym c.is_watching.ensures ∙ c.if-is_watching.false in
    c.if-is_watching.false ∙ sym (here ∙ ap (λ b. b && some x.signals) waiting)
