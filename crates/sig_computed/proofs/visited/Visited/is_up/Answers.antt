use Rattle.std.proofs.Common.{Bool, List, ℕ, ap, ◌∙◌}
use Rattle.signal_model.specs.Signals.{is_in}
use Rattle.sig_computed.specs.Flags.{flag_of, is_raised}
use Rattle.sig_computed.proofs.visited.Visited.is_up.Goals as goal

pub returns : goal.returns
returns c = λ on.
    c.is_flagged.ensures ∙ ap (λ (fs : List Bool). is_raised fs (flag_of c.args.id)) c.deref.ensures.value
    ∙ c.self.invariant.each c.args.id (ap (λ (ns : List ℕ). is_in c.args.id ns) c.self.view_is ∙ on)
