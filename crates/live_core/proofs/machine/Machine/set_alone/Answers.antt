use Rattle.std.proofs.Common.{List, map, sym, subst}
use Rattle.sig_effect.specs.Stores.{environment}
use Rattle.live_entries.specs.declared.entry.Entry.{Entry}
use Rattle.live_model.specs.Machine.{setting}
use Rattle.live_core.specs.Consistency.{Steps}
use Rattle.live_core.specs.Views.{plain_of}
use Rattle.live_core.proofs.machine.Machine.set_alone.Goals as goal

pub returns-then-is_unheard-clause-steps : goal.returns-then-is_unheard-clause-steps
returns-then-is_unheard-clause-steps g c = λ hosts asked sound.
    subst (λ (es : List Entry). Steps hosts asked c.set_unheard.new.self es
    (setting (environment hosts (map (λ r. r.slack) c.args.rules.now)) (plain_of asked c.args.self.now) c.args.cell c.args.value))
    (sym c.new.ensures.items) (c.set_unheard.ensures.steps hosts asked sound)
