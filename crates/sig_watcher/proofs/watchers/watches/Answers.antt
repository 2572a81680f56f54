use Rattle.std.proofs.Common.{ℕ, List, sym, ap}
use Rattle.signal_model.specs.Signals.{is_in}
use Rattle.sig_watcher.proofs.Places.{first_below, none_signals}
use Rattle.sig_watcher.proofs.watchers.watches.Goals as goal

pub watches_at-requires : goal.watches_at-requires
watches_at-requires c = first_below c.args.watchers.now c.args.w c.in-Some.place c.in-Some.ensures.some

pub returns-in-None : goal.returns-in-None
returns-in-None c = sym (ap (λ (ns : List ℕ). is_in c.args.id ns) (none_signals c.args.watchers.now c.args.w c.in-None.ensures.none))
