use Rattle.std.proofs.Common.{sym, ap, ◌∙◌}
use Rattle.signal_model.specs.Signals.{standing}
use Rattle.sig_nodes.specs.Answers.{rule_here}
use Rattle.sig_graph.specs.States.{Seen}
use Rattle.sig_graph.proofs.Parts.{stands}
use Rattle.sig_graph.proofs.graph.Graph.rule_of.Goals as goal

pub returns : goal.returns
returns c =
    c.rule_at.ensures
    ∙ ap rule_here (sym (stands c.self.inside.nodes.items c.args.id)) ∙ ap (λ (s : Seen). rule_here (standing s.state.signals c.args.id)) c.self.view_is
