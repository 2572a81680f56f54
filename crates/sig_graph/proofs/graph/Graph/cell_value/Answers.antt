use Rattle.std.proofs.Common.{sym, ap, ◌∙◌}
use Rattle.signal_model.specs.Signals.{standing}
use Rattle.sig_nodes.specs.Answers.{value_here}
use Rattle.sig_graph.specs.States.{Seen}
use Rattle.sig_graph.proofs.Parts.{stands}
use Rattle.sig_graph.proofs.graph.Graph.cell_value.Goals as goal

pub returns : goal.returns
returns c =
    c.value_at.ensures
    ∙ ap value_here (sym (stands c.self.inside.nodes.items c.args.id)) ∙ ap (λ (s : Seen). value_here (standing s.state.signals c.args.id)) c.self.view_is
