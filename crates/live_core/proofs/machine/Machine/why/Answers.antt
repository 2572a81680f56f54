use Rattle.std.proofs.Common.{◌∙◌, ℕ, ap}
use Rattle.live_model.specs.Journals.{chain_in, why_entries}
use Rattle.live_model.specs.Machine.{reached}
use Rattle.live_core.specs.Views.{plain_of}
use Rattle.live_core.proofs.machine.Machine.why.Goals as goal

pub returns-clause-steps : goal.returns-clause-steps
returns-clause-steps c = λ hosts slacks asked sound.
    let m = c.args.self.now in record {
      step = ap (reached (plain_of asked m)) (c.in_ok-told.ensures
          ∙ (λ i. why_entries (c.deref.ensures.value i) c.args.name (c.in_ok-links.ensures i))
          ∙ ap (λ (n : ℕ). why_entries m.labels.signals.items c.args.name (chain_in m.journal n)) (c.of-computed.ensures ∙ c.number_of.ensures));
      sound = sound;
    }
