use Rattle.std.proofs.Common.{sym, ap, ◌∙◌}
use Rattle.signal_model.specs.Signals.{standing}
use Rattle.sig_nodes.specs.Answers.{slots_here}
use Rattle.sig_graph.specs.States.{Seen}
use Rattle.sig_graph.proofs.Lookups.{slots_found}
use Rattle.sig_graph.proofs.graph.Graph.slots.Goals as goal

pub returns : goal.returns
returns c =
    c.slots_at.ensures
    ∙ sym (slots_found c.self.inside.nodes.items c.args.id) ∙ ap (λ (s : Seen). slots_here (standing s.state.signals c.args.id)) c.self.view_is
