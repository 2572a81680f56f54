use Rattle.std.proofs.Common.{◌∙◌, ap}
use Rattle.std.specs.Map.{keys_of}
use Rattle.signal_model.specs.Signals.{is_in}
use Rattle.sig_state.proofs.Collected.{found_there}
use Rattle.sig_state.specs.Batches.{Collected}
use Rattle.sig_state.proofs.batch.Batch.has.Goals as goal

pub returns : goal.returns
returns c =
    c.contains_key.ensures ∙ found_there c.args.id c.self.inside.changed.entries ∙ ap (λ (b : Collected). is_in c.args.id (keys_of b.changed)) c.self.view_is
