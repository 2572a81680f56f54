use Rattle.std.proofs.Common.{sym, ap, ◌∙◌, is_some}
use Rattle.signal_model.specs.Signals.{standing}
use Rattle.sig_nodes.specs.Answers.{kind_here}
use Rattle.sig_graph.specs.States.{Seen, is_computing}
use Rattle.sig_nodes.specs.Nodes.{body_at, known_body}
use Rattle.sig_graph.specs.Parts.{signals_of}
use Rattle.sig_graph.proofs.Parts.{progress_found, stands}
use Rattle.sig_graph.proofs.graph.Graph.standing.Goals as goal

pub returns : goal.returns
returns c =
    let xs = c.self.inside.nodes.items in
    c.standing_at.ensures
    ∙ ap (λ z. kind_here z (is_some (known_body (body_at xs c.args.id)))) (sym (stands xs c.args.id)) ∙ ap (λ k. kind_here (standing (signals_of xs) c.args.id) (is_some k)) (sym (progress_found xs c.args.id)) ∙ ap (λ (s : Seen). kind_here (standing s.state.signals c.args.id) (is_computing s.state c.args.id)) c.self.view_is
