use Rattle.std.proofs.Common.{◌≡◌, ap, ◌∙◌, subst}
use Rattle.std.specs.Prelude.{IfOk}
use Rattle.signal_model.specs.Signals.{standing}
use Rattle.signal_model.specs.Memos.{memo_of}
use Rattle.signal_model.specs.Sound.{kept_outcome}
use Rattle.sig_nodes.specs.Answers.{shown_here}
use Rattle.sig_graph.specs.States.{Seen, is_computing}
use Rattle.sig_graph.proofs.Lookups.{shown_found}
use Rattle.sig_graph.proofs.graph.Graph.shown.Goals as goal

pub returns : goal.returns
returns c =
    subst (λ x. IfOk c.shown_at.result (λ o. o ≡ x))
    (shown_found c.self.inside.nodes.items c.self.inside.generation c.args.id
    ∙ ap (λ (s : Seen). shown_here (standing s.state.signals c.args.id) (is_computing s.state c.args.id) (kept_outcome (memo_of s.state.memos c.args.id))) c.self.view_is) c.shown_at.ensures
