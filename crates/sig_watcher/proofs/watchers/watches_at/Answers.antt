use Rattle.std.proofs.Common.{ap, ◌∙◌}
use Rattle.signal_model.specs.Signals.{is_in}
use Rattle.sig_watcher.proofs.Places.{first_signals}
use Rattle.sig_watcher.proofs.watchers.watches_at.Goals as goal

pub returns : goal.returns
returns c = λ w at.
    c.is_among.ensures ∙ ap (is_in c.args.id) (c.signals.ensures ∙ first_signals c.args.watchers.now w c.args.place c.index-watchers-place.result at c.index-watchers-place.is)
