use Rattle.std.proofs.Common.{ap, ◌∙◌}
use Rattle.effect_model.specs.Watchers.{pending_of}
use Rattle.sig_watcher.proofs.Places.{first_signals}
use Rattle.sig_watcher.proofs.watchers.pending_at.Goals as goal

pub returns-clause-pending : goal.returns-clause-pending
returns-clause-pending c = λ w at.
    let g = c.args.graph.now in
    c.in_ok-pending.ensures.pending ∙ ap (pending_of g.state.signals g.state.memos) (c.signals.ensures ∙ first_signals c.args.watchers.now w c.args.place c.index-watchers-place.result at c.index-watchers-place.is)
